-- The variables of declarations: their names differ, and earlier ones keep their places.
use Rattle.std.proofs.Common.{◌≡◌, ℕ, Bool, suc, zero, List, [], ◌∷◌, ◌++◌, length, map, take, slice_get, Some, Ok, ◌*◌, ◌^◌, ◌<◌, ◌≤◌, append-nil, append_assoc, length-append, ◌+◌, refl, sym, ap, ◌∙◌, subst, arith, ◌⊎◌, inl, inr, ⊎_elim}
use Rattle.std.proofs.lemmas.List.{length-map, map-append}
use Rattle.std.proofs.lemmas.List.Elements.{All-head, All-tail}
use Rattle.std.proofs.Math.Seq.{take-append_seam}
use Rattle.kf_value.specs.Kinds.{KindTree, kind_of}
use Rattle.kf_value.specs.Types.{TypeTree, count, product}
use Rattle.kf_ast.specs.Names.{name}
use Rattle.kf_ast.specs.TypeForms.{TypeForm}
use Rattle.kf_ast.specs.Dists.{DistTree}
use Rattle.kf_ast.specs.Sources.{DeclTree, declared}
use Rattle.kf_check.specs.Kinds.{JudgesDist}
use Rattle.kf_check.specs.Translation.{names_of}
use Rattle.kf_check.specs.Types.{greatest_size, JudgesType}
use Rattle.kf_check.specs.Sources.{Variable, types_of, known_of, JudgesDecl, JudgesDecls}
use Rattle.kf_check.specs.Picks.{names_in}
use Rattle.kf_check.proofs.Kinding.{IsVariable, kinds_in, Differ, slice_get-some, same_ok, asked}
use Rattle.kf_check.specs.Variables.{IsKnown, IsUnknown}

pub slice_get-push : {A : Type 0} (xs : List A) (x : A) (i : ℕ) (y : A) → slice_get (xs ++ x ∷ []) i ≡ Some y → (slice_get xs i ≡ Some y) ⊎ ((i ≡ length xs) × (x ≡ y))
slice_get-push [] x zero y h = inr (refl, (cc))
slice_get-push [] x (suc i) y h = absurd (cc)
slice_get-push (z ∷ xs) x zero y h = inl h
slice_get-push (z ∷ xs) x (suc i) y h = ⊎_elim (λ (e : slice_get xs i ≡ Some y). inl e) (λ (e : (i ≡ length xs) × (x ≡ y)). inr (ap suc e.0, e.1)) (slice_get-push xs x i y h)

-- no such name stands in the list
abbrev pub IsNew : List (List ℕ) → List ℕ → Type 0
IsNew names n = (i : ℕ) → IsVariable names n i → ⊥

pub names_of_known : (vs : List Variable) → names_in (known_of vs) ≡ names_of vs
names_of_known [] = refl
names_of_known (v ∷ vs) = ap (λ ns. v.name ∷ ns) (names_of_known vs)

pub kinds_of_known : (vs : List Variable) → kinds_in (known_of vs) ≡ map kind_of (types_of vs)
kinds_of_known [] = refl
kinds_of_known (v ∷ vs) = ap (λ ks. kind_of v.type ∷ ks) (kinds_of_known vs)

names-push : (vs : List Variable) (v : Variable) → names_of (vs ++ v ∷ []) ≡ names_of vs ++ v.name ∷ []
names-push [] v = refl
names-push (w ∷ vs) v = ap (λ ns. w.name ∷ ns) (names-push vs v)

pub unknown_new : (vs : List Variable) (n : List ℕ) → IsUnknown (known_of vs) n → IsNew (names_of vs) n
unknown_new [] n u i h = (cc)
unknown_new (v ∷ vs) n u zero h = All-head (λ w. w.name ≡ n → ⊥) (record { name = v.name; kind = kind_of v.type }) (known_of vs) u (cc)
unknown_new (v ∷ vs) n u (suc i) h = unknown_new vs n (All-tail (λ w. w.name ≡ n → ⊥) (record { name = v.name; kind = kind_of v.type }) (known_of vs) u) i h

differ-push : (names : List (List ℕ)) (m : List ℕ) → Differ names → IsNew names m → Differ (names ++ m ∷ [])
differ-push names m apart new n i j h g = by (slice_get-push names m i n h) (slice_get-push names m j n g)
  where
    by : (slice_get names i ≡ Some n) ⊎ ((i ≡ length names) × (m ≡ n)) → (slice_get names j ≡ Some n) ⊎ ((j ≡ length names) × (m ≡ n)) → i ≡ j
    by (inl h) (inl g) = apart n i j h g
    by (inl h) (inr g) = absurd (new i (h ∙ ap Some (sym g.1)))
    by (inr h) (inl g) = absurd (new j (g ∙ ap Some (sym h.1)))
    by (inr h) (inr g) = h.0 ∙ sym g.0

-- they still differ with a new name more
pub differ-new : (vs : List Variable) (v : Variable) → IsUnknown (known_of vs) v.name → Differ (names_of vs) → Differ (names_of (vs ++ v ∷ []))
differ-new vs v new apart = subst Differ (sym (names-push vs v)) (differ-push (names_of vs) v.name apart (unknown_new vs v.name new))

-- what holds of a declaration that breaks no rule, and of its variable
pub record GoodDecl (vs : List Variable) (n : List ℕ) (y : TypeForm) (d : DistTree) (v : Variable) : Type 0 where
  pub named : v.name ≡ n
  pub new : IsUnknown (known_of vs) v.name
  pub typed : JudgesType greatest_size y (Ok v.type)
  pub few : length (types_of vs) < 32
  pub narrow : product (map count (types_of vs)) * count v.type ≤ 2 ^ 63
  pub drawn : JudgesDist (known_of vs) d (Ok (kind_of v.type))

pub good_decl : (vs : List Variable) (visible : Bool) (n : List ℕ) (at : ℕ) (y : TypeForm) (d : DistTree) (v : Variable) → JudgesDecl vs (declared visible (name n at) y d) (Ok v) → GoodDecl vs n y d v
good_decl vs visible n at y d v h =
    let t = h.2.0 in
    let room = h.2.2.1 in
    let is : v ≡ record { name = n; type = t } = same_ok v (record { name = n; type = t }) h.2.2.2.2 in
    let good : GoodDecl vs n y d (record { name = n; type = t }) = record { named = refl; new = h.1.0; typed = h.2.1; few = room.1.0; narrow = room.2.0; drawn = asked (known_of vs) (kind_of t) h.2.2.2.0 d h.2.2.2.1 } in
    subst (GoodDecl vs n y d) (sym is) good

pub differ-declared : (vs ws : List Variable) (ds : List DeclTree) → JudgesDecls vs ds (Ok ws) → Differ (names_of vs) → Differ (names_of ws)
differ-declared vs ws [] h apart = subst (λ us. Differ (names_of us)) (sym (same_ok ws vs h)) apart
differ-declared vs ws (declared visible (name n at) y d ∷ ds) h apart = differ-declared (vs ++ h.0 ∷ []) ws ds h.2 (differ-new vs h.0 (good_decl vs visible n at y d h.0 h.1).new apart)

pub none_differ : Differ (names_of [])
none_differ n i j h g = (cc)

-- the variables of a source's declarations have different names
pub variables_differ : (vs : List Variable) (ds : List DeclTree) → JudgesDecls [] ds (Ok vs) → Differ (names_of vs)
variables_differ vs ds js = differ-declared [] vs ds js none_differ

pub known_differ : (vs : List Variable) → Differ (names_of vs) → Differ (names_in (known_of vs))
known_differ vs apart = subst Differ (sym (names_of_known vs)) apart

-- declarations add variables behind those that there are
pub grown : (vs ws : List Variable) (ds : List DeclTree) → JudgesDecls vs ds (Ok ws) → (more : List Variable) × (ws ≡ vs ++ more)
grown vs ws [] h = ([], same_ok ws vs h ∙ sym (append-nil vs))
grown vs ws (d ∷ ds) h = let rest = grown (vs ++ h.0 ∷ []) ws ds h.2 in (h.0 ∷ rest.0, rest.1 ∙ append_assoc vs (h.0 ∷ []) rest.0)

-- there are as many as declarations
pub counted : (vs ws : List Variable) (ds : List DeclTree) → JudgesDecls vs ds (Ok ws) → length ws ≡ length vs + length ds
counted vs ws [] h = let same = ap length (same_ok ws vs h) in omega arith
counted vs ws (d ∷ ds) h = let rest = counted (vs ++ h.0 ∷ []) ws ds h.2 in let longer = length-append vs (h.0 ∷ []) in omega arith

pub slice_get-left : {A : Type 0} (xs ys : List A) (i : ℕ) (x : A) → slice_get xs i ≡ Some x → slice_get (xs ++ ys) i ≡ Some x
slice_get-left [] ys i x h = absurd (cc)
slice_get-left (z ∷ xs) ys zero x h = h
slice_get-left (z ∷ xs) ys (suc i) x h = slice_get-left xs ys i x h

pub slice_get-right : {A : Type 0} (xs ys : List A) (i : ℕ) → slice_get (xs ++ ys) (length xs + i) ≡ slice_get ys i
slice_get-right [] ys i = (let h : 0 + i ≡ i = omega arith in ap (slice_get ys) h)
slice_get-right (x ∷ xs) ys i = (let h : length (x ∷ xs) + i ≡ suc (length xs + i) = omega arith in ap (slice_get (x ∷ xs ++ ys)) h) ∙ slice_get-right xs ys i

-- the variable of a known name has that name
pub named_at : (vs : List Variable) (n : List ℕ) (i : ℕ) (k : KindTree) → IsKnown (known_of vs) n i k → IsVariable (names_of vs) n i
named_at vs n i k h = subst (λ ns. slice_get ns i ≡ Some n) (names_of_known vs) (slice_get-some (λ v. v.name) (known_of vs) i (record { name = n; kind = k }) h)

-- so it has among more variables, of which these are the first
pub named_first : (vs more : List Variable) (n : List ℕ) (i : ℕ) (k : KindTree) → IsKnown (known_of vs) n i k → IsVariable (names_of (vs ++ more)) n i
named_first vs more n i k h = ap (λ ns. slice_get ns i) (map-append (λ v. v.name) vs more) ∙ slice_get-left (names_of vs) (names_of more) i n (named_at vs n i k h)

-- the first types are those of the variables
pub types_first : (vs : List Variable) (types : List TypeTree) → take (length vs) (types_of vs ++ types) ≡ types_of vs
types_first vs types = ap (λ n. take n (types_of vs ++ types)) (sym (length-map vs (λ v. v.type))) ∙ take-append_seam (types_of vs) types
