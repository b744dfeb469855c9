-- The first row of a table that has a word.
use Rattle.std.proofs.Common.{◌≡◌, ℕ, Bool, true, false, List, [], ◌∷◌, map, Option, Some, cond, Bor, refl, sym, subst}
use Rattle.std.specs.Prelude.{option_map, IfSome}
use Rattle.std.specs.List.{AllByRecursion as Each}
use Rattle.std.specs.Map.{lookup}
use Rattle.std.specs.Str.{bytes_eq}
use Rattle.kf_words.specs.CommandViews.{row_meant, values_of}
use Rattle.kf_words.specs.Task as task
use Rattle.kf_words.specs.declared.commands.CommandRow.{CommandRow}

-- the table as it is meant
abbrev pub rows_meant : List (Bor (List ℕ) × CommandRow) → List (List ℕ × task.CommandRow)
rows_meant table = map (λ r. (r.0.now, row_meant r.1)) table

meant_on : (b : Bool) (r : CommandRow) (o : Option CommandRow) (p : Option task.CommandRow) → option_map row_meant o ≡ p
    → option_map row_meant (cond b (Some r) o) ≡ cond b (Some (row_meant r)) p
meant_on true r o p rest = refl
meant_on false r o p rest = rest

-- what is found is what the meant table has
pub first_meant : (table : List (Bor (List ℕ) × CommandRow)) (word : List ℕ)
    → option_map row_meant (lookup (λ key. bytes_eq word key.now) table) ≡ lookup (bytes_eq word) (rows_meant table)
first_meant [] word = refl
first_meant (r ∷ table) word = meant_on (bytes_eq word r.0.now) r.1 _ _ (first_meant table word)

values_on : (b : Bool) (r : CommandRow) (o : Option CommandRow) → r.values ≡ values_of r.command
    → IfSome o (λ row. row.values ≡ values_of row.command) → IfSome (cond b (Some r) o) (λ row. row.values ≡ values_of row.command)
values_on true r o here rest = here
values_on false r o here rest = rest

values_stand : (table : List (Bor (List ℕ) × CommandRow)) (word : List ℕ) → Each (λ r. r.1.values ≡ values_of r.1.command) table
    → IfSome (lookup (λ key. bytes_eq word key.now) table) (λ row. row.values ≡ values_of row.command)
values_stand [] word each = tt
values_stand (r ∷ table) word each = values_on (bytes_eq word r.0.now) r.1 _ each.0 (values_stand table word each.1)

-- a row that is found has as many values as its command, where all rows have
pub values_found : (table : List (Bor (List ℕ) × CommandRow)) (word : List ℕ) (found : Option CommandRow)
    → found ≡ lookup (λ key. bytes_eq word key.now) table → Each (λ r. r.1.values ≡ values_of r.1.command) table
    → IfSome found (λ row. row.values ≡ values_of row.command)
values_found table word found is each = subst (λ o. IfSome o (λ row. row.values ≡ values_of row.command)) (sym is) (values_stand table word each)
