-- A JSON value without numbers is read back from its text with LF behind it, and that text is UTF-8.
use Rattle.std.proofs.Common.{◌≡◌, ℕ, ◌≤◌, List, [], ◌∷◌, ◌++◌, Bool, true, false, Option, Some, IsUtf8, refl, sym, ap, ap₂, ◌∙◌, subst, append_assoc, append-nil, max, suc}
use Rattle.std.specs.Prelude.{⊤, option_and_then}
use Rattle.std.proofs.lemmas.Str.{IsUtf8-append}
use Rattle.json.specs.Json as json
use Rattle.json.specs.Lex.{Lexeme, token, comma, colon, string_token, between, lex, fresh, punctuate, tokens}
use Rattle.json.specs.Print.{escape, quoted}
use Rattle.json.specs.Token.{Token}
use Rattle.json.specs.Tree as tree
use Rattle.json.proofs.Printed.Strings.{content-escape, lex-escape}
use Rattle.json.proofs.Printed.Tokens.{tokens-print}
use Rattle.json.proofs.Printed.Trees.{value-json_tokens, ArePrintable-json_tokens}
use Rattle.json.proofs.Printed.Utf8.{IsUtf8-quoted, IsUtf8-are_ascii}
use Rattle.serde_json.specs.Data.{Data, null, boolean, number, string, array, object, Items, no_items, item, Members, no_members, member, depth, items_depth, members_depth}
use Rattle.serde_json.specs.Read.{read, max_depth, of_json}
use Rattle.serde_json.specs.Written.{outline, items_outline, members_outline, comma_if, compact_text, items_text, members_text}
use Rattle.serde_json.proofs.Texts.{print-outline}

-- each text in it is UTF-8, and nothing is in it but texts, lists and objects
abbrev mutual
  pub AreTexts : Data → Type 0
  AreTexts null = ⊥
  AreTexts (boolean b) = ⊥
  AreTexts (number n) = ⊥
  AreTexts (string s) = IsUtf8 s
  AreTexts (array ds) = ItemsAreTexts ds
  AreTexts (object ms) = MembersAreTexts ms

  pub ItemsAreTexts : Items → Type 0
  ItemsAreTexts no_items = ⊤
  ItemsAreTexts (item d ds) = AreTexts d × ItemsAreTexts ds

  pub MembersAreTexts : Members → Type 0
  MembersAreTexts no_members = ⊤
  MembersAreTexts (member k d ms) = IsUtf8 k × AreTexts d × MembersAreTexts ms

-- ---- what stands behind a text doesn't change its lexemes

abbrev Alike : List ℕ → List ℕ → Type 0
Alike r s = lex between r ≡ lex between s

lex-quoted : (t r : List ℕ) → lex between (quoted t ++ r) ≡ token (Token.string t) ∷ lex between r
unfolding lex
lex-quoted t r =
    ap (λ (l : List ℕ). lex between (34 ∷ l)) (append_assoc (escape t) (34 ∷ []) r)
    ∙ ap₂ (λ (o : Option (List ℕ)) (l : List Lexeme). token (string_token o) ∷ l) (content-escape t r) (lex-escape t r)

alike_quoted : (t r s : List ℕ) → Alike r s → Alike (quoted t ++ r) (quoted t ++ s)
alike_quoted t r s e = lex-quoted t r ∙ ap (λ (l : List Lexeme). token (Token.string t) ∷ l) e ∙ sym (lex-quoted t s)

regrouped : (a b r s : List ℕ) → Alike (a ++ (b ++ r)) (a ++ (b ++ s)) → Alike ((a ++ b) ++ r) ((a ++ b) ++ s)
regrouped a b r s e = ap (lex between) (append_assoc a b r) ∙ e ∙ sym (ap (lex between) (append_assoc a b s))

after_comma : (later : Bool) (r s : List ℕ) → Alike r s → Alike (comma_if later ++ r) (comma_if later ++ s)
unfolding lex
after_comma true r s e = ap (λ (l : List Lexeme). comma ∷ l) e
after_comma false r s e = e

after_colon : (r s : List ℕ) → Alike r s → Alike (58 ∷ r) (58 ∷ s)
unfolding lex
after_colon r s e = ap (λ (l : List Lexeme). colon ∷ l) e

mutual
  unfolding lex

  alike : (d : Data) → AreTexts d → (r s : List ℕ) → Alike r s → Alike (compact_text d ++ r) (compact_text d ++ s)
  alike null h r s e = absurd h
  alike (boolean b) h r s e = absurd h
  alike (number n) h r s e = absurd h
  alike (string t) h r s e = alike_quoted t r s e
  alike (array ds) h r s e = ap (λ (l : List Lexeme). token Token.begin_array ∷ l) (items_alike false ds h r s e)
  alike (object ms) h r s e = ap (λ (l : List Lexeme). token Token.begin_object ∷ l) (members_alike false ms h r s e)

  items_alike : (later : Bool) (ds : Items) → ItemsAreTexts ds → (r s : List ℕ) → Alike r s → Alike (items_text later ds ++ r) (items_text later ds ++ s)
  items_alike later no_items h r s e = ap (λ (l : List Lexeme). token Token.end_array ∷ l) e
  items_alike later (item d ds) h r s e =
      let others : List ℕ = items_text true ds in
      regrouped (comma_if later) (compact_text d ++ others) r s
      (after_comma later _ _ (regrouped (compact_text d) others r s (alike d h.0 _ _ (items_alike true ds h.1 r s e))))

  members_alike : (later : Bool) (ms : Members) → MembersAreTexts ms → (r s : List ℕ) → Alike r s → Alike (members_text later ms ++ r) (members_text later ms ++ s)
  members_alike later no_members h r s e = ap (λ (l : List Lexeme). token Token.end_object ∷ l) e
  members_alike later (member k d ms) h r s e =
      let others : List ℕ = members_text true ms in
      let valued : List ℕ = 58 ∷ (compact_text d ++ others) in
      regrouped (comma_if later) (quoted k ++ valued) r s
      (after_comma later _ _ (regrouped (quoted k) valued r s (alike_quoted k _ _ (after_colon ((compact_text d ++ others) ++ r) ((compact_text d ++ others) ++ s) (regrouped (compact_text d) others r s (alike d h.1 _ _ (members_alike true ms h.2 r s e)))))))

nothing_behind : Alike (10 ∷ []) []
unfolding lex
nothing_behind = refl

-- ---- UTF-8

comma_utf8 : (later : Bool) → IsUtf8 (comma_if later)
comma_utf8 true = IsUtf8-are_ascii (44 ∷ []) refl
comma_utf8 false = IsUtf8-are_ascii [] refl

ascii_before : (b : ℕ) (text : List ℕ) → IsUtf8 (b ∷ []) → IsUtf8 text → IsUtf8 (b ∷ text)
ascii_before b text first rest = IsUtf8-append (b ∷ []) text first rest

mutual
  text_utf8 : (d : Data) → AreTexts d → IsUtf8 (compact_text d)
  text_utf8 null h = absurd h
  text_utf8 (boolean b) h = absurd h
  text_utf8 (number n) h = absurd h
  text_utf8 (string t) h = IsUtf8-quoted t h
  text_utf8 (array ds) h = ascii_before 91 (items_text false ds) (IsUtf8-are_ascii (91 ∷ []) refl) (items_utf8 false ds h)
  text_utf8 (object ms) h = ascii_before 123 (members_text false ms) (IsUtf8-are_ascii (123 ∷ []) refl) (members_utf8 false ms h)

  items_utf8 : (later : Bool) (ds : Items) → ItemsAreTexts ds → IsUtf8 (items_text later ds)
  items_utf8 later no_items h = IsUtf8-are_ascii (93 ∷ []) refl
  items_utf8 later (item d ds) h =
      IsUtf8-append (comma_if later) (compact_text d ++ items_text true ds) (comma_utf8 later)
      (IsUtf8-append (compact_text d) (items_text true ds) (text_utf8 d h.0) (items_utf8 true ds h.1))

  members_utf8 : (later : Bool) (ms : Members) → MembersAreTexts ms → IsUtf8 (members_text later ms)
  members_utf8 later no_members h = IsUtf8-are_ascii (125 ∷ []) refl
  members_utf8 later (member k d ms) h =
      let valued : List ℕ = compact_text d ++ members_text true ms in
      IsUtf8-append (comma_if later) (quoted k ++ 58 ∷ valued) (comma_utf8 later)
      (IsUtf8-append (quoted k) (58 ∷ valued) (IsUtf8-quoted k h.0)
      (ascii_before 58 valued (IsUtf8-are_ascii (58 ∷ []) refl) (IsUtf8-append (compact_text d) (members_text true ms) (text_utf8 d h.1) (members_utf8 true ms h.2))))

pub line_utf8 : (d : Data) → AreTexts d → IsUtf8 (compact_text d ++ 10 ∷ [])
line_utf8 d h = IsUtf8-append (compact_text d) (10 ∷ []) (text_utf8 d h) (IsUtf8-are_ascii (10 ∷ []) refl)

-- ---- the tokens, and what they are read as

mutual
  no_numbers : (d : Data) → AreTexts d → tree.HasNumbers (outline d)
  no_numbers null h = absurd h
  no_numbers (boolean b) h = absurd h
  no_numbers (number n) h = absurd h
  no_numbers (string t) h = tt
  no_numbers (array ds) h = items_no_numbers ds h
  no_numbers (object ms) h = members_no_numbers ms h

  items_no_numbers : (ds : Items) → ItemsAreTexts ds → tree.ItemsHaveNumbers (items_outline ds)
  items_no_numbers no_items h = tt
  items_no_numbers (item d ds) h = (no_numbers d h.0, items_no_numbers ds h.1)

  members_no_numbers : (ms : Members) → MembersAreTexts ms → tree.MembersHaveNumbers (members_outline ms)
  members_no_numbers no_members h = tt
  members_no_numbers (member k d ms) h = (no_numbers d h.1, members_no_numbers ms h.2)

mutual
  same_depth : (d : Data) → tree.depth (outline d) ≡ depth d
  same_depth null = refl
  same_depth (boolean b) = refl
  same_depth (number n) = refl
  same_depth (string t) = refl
  same_depth (array ds) = ap suc (same_items_depth ds)
  same_depth (object ms) = ap suc (same_members_depth ms)

  same_items_depth : (ds : Items) → tree.items_depth (items_outline ds) ≡ items_depth ds
  same_items_depth no_items = refl
  same_items_depth (item d ds) = ap₂ max (same_depth d) (same_items_depth ds)

  same_members_depth : (ms : Members) → tree.members_depth (members_outline ms) ≡ members_depth ms
  same_members_depth no_members = refl
  same_members_depth (member k d ms) = ap₂ max (same_depth d) (same_members_depth ms)

line_tokens : (d : Data) → AreTexts d → tokens (compact_text d ++ 10 ∷ []) ≡ tree.json_tokens (outline d)
line_tokens d h =
    ap (punctuate fresh) (alike d h (10 ∷ []) [] nothing_behind) ∙ ap tokens (append-nil (compact_text d) ∙ sym (print-outline d))
    ∙ tokens-print (tree.json_tokens (outline d)) (ArePrintable-json_tokens (outline d) (no_numbers d h))

abbrev whole : Option (json.Json × List Token) → Option Data
whole o = option_and_then of_json (option_and_then (λ p. json.if_last p.0 p.1) o)

pub line_read : (d : Data) → AreTexts d → depth d ≤ max_depth → of_json (outline d) ≡ Some d → read (compact_text d ++ 10 ∷ []) ≡ Some d
line_read d h shallow ordered =
    let j : json.Json = outline d in
    ap whole
    (ap (json.value max_depth) (line_tokens d h ∙ sym (append-nil (tree.json_tokens j)))
    ∙ value-json_tokens j max_depth [] (subst (λ (n : ℕ). n ≤ max_depth) (sym (same_depth d)) shallow))
    ∙ ordered
