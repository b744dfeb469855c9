-- The made text keeps within the limits of brackets and of expressions.
use Rattle.std.proofs.Common.{◌≡◌, ◌+◌, ◌≤◌, ◌&&◌, ℕ, zero, suc, Bool, true, nat_le, List, [], ◌∷◌, ◌++◌, None, refl, subst, arith}
use Rattle.std.specs.List.{flat_map}
use Rattle.std.proofs.lemmas.Bool.Decides.{nat_tests}
use Rattle.kf_lex.specs.declared.token.Token.{Token}
use Rattle.kf_lex.proofs.Both.{and_first, and_second}
use Rattle.kf_parse.specs.Depth.{IsShallow, Open, open_brackets, opened}
use Rattle.kf_parse.specs.Sizes.{first_long, source_exprs, stmt_exprs}
use Rattle.kf_parse.specs.Tokens.{open_after}
use Rattle.kf_make.specs.Made.{made_statements, made_tree}
use Rattle.kf_make.proofs.Tokens.{lines_tokens, made_tokens}

-- so much stands open before and after each token that it is within the limit
abbrev stays : Open → List Token → Bool
stays c [] = nat_le (c.brackets + c.ofs) 64
stays c (o ∷ ts) = nat_le (c.brackets + c.ofs) 64 && stays (opened c o.kind) ts

stays_within : (c : Open) (front rest : List Token) → stays c (front ++ rest) ≡ true
    → let d = open_after c front in d.brackets + d.ofs ≤ 64
stays_within c [] [] h = grind (arith, nat_tests, h)
stays_within c [] (o ∷ rest) h =
    let here : nat_le (c.brackets + c.ofs) 64 ≡ true = and_first _ _ h in grind (arith, nat_tests, here)
stays_within c (o ∷ front) rest h = stays_within (opened c o.kind) front rest (and_second (nat_le (c.brackets + c.ofs) 64) _ h)

lines_stay : (at k : ℕ) → stays (open_brackets 0) (lines_tokens at k) ≡ true
lines_stay at zero = refl
lines_stay at (suc k) = lines_stay (at + 49) k

pub made_shallow : (count : ℕ) → IsShallow (made_tokens count)
made_shallow count front rest e =
    stays_within (open_brackets 0) front rest (subst (λ ts. stays (open_brackets 0) ts ≡ true) e (lines_stay 32 count))

lines_short : (at k : ℕ) → first_long (flat_map stmt_exprs (made_statements at k)) ≡ None
lines_short at zero = refl
lines_short at (suc k) = lines_short (at + 49) k

pub made_short : (count : ℕ) → first_long (source_exprs (made_tree count)) ≡ None
made_short count = lines_short 32 count
