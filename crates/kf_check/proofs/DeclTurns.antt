-- What checking a declaration gives, and a turn of the loop over declarations.
use Rattle.std.proofs.Common.{◌≡◌, ◌≢◌, ℕ, Bool, ◌*◌, ◌^◌, ◌<◌, ◌≤◌, List, [], ◌∷◌, ◌++◌, map, length, Result, Ok, Err, refl, sym, ap, ◌∙◌, subst, arith, append_assoc, append-nil, inl, inr}
use Rattle.std.proofs.lemmas.List.{map-append, length-map}
use Rattle.std.proofs.Math.Nat.{mul_assoc}
use Rattle.kf_value.specs.Kinds.{KindTree, kind_of}
use Rattle.kf_value.specs.Types.{TypeTree, count, product}
use Rattle.kf_ops.specs.Fitting.{Takes}
use Rattle.kf_ast.specs.Names.{name}
use Rattle.kf_ast.specs.TypeForms.{TypeForm}
use Rattle.kf_ast.specs.Dists.{DistTree}
use Rattle.kf_ast.specs.Sources.{DeclTree, declared, is_visible}
use Rattle.kf_ast.specs.Built.{AreDeclsBuilt}
use Rattle.kf_core.specs.declared.dx.Dx.{Dx}
use Rattle.kf_core.specs.Dxs.{DxTree}
use Rattle.kf_core.specs.Views.{dx_tree}
use Rattle.kf_check.specs.declared.errors.TypeError.{TypeError}
use Rattle.kf_check.specs.declared.errors.TypeError.TheVariants as broken
use Rattle.kf_check.specs.declared.variables.Declaration.{Declaration}
use Rattle.kf_check.specs.declared.variables.Variable as code
use Rattle.kf_check.specs.Types.{greatest_size, JudgesType}
use Rattle.kf_check.specs.Kinds.{Known, AsksDist}
use Rattle.kf_check.specs.Sources.{Variable, types_of, known_of, Grows, JudgesDecl, JudgesDecls}
use Rattle.kf_check.specs.Translation.{dx_of, decl_of, names_of}
use Rattle.kf_check.specs.Picks.{names_in}
use Rattle.kf_check.specs.Variables.{variable_of, IsKnown, IsUnknown}
use Rattle.kf_check.specs.SourceAnswers.{AnswersGrowth, AnswersDecl}
use Rattle.kf_check.proofs.Behind.{dx_behind}
use Rattle.kf_check.proofs.Judging.{past}
use Rattle.kf_check.proofs.Declared.{grown as extended, good_decl, names_of_known}
use Rattle.kf_check.proofs.LawsKinds.{not_unknown}

-- ---- the number of stores

product_behind : (ns : List ℕ) (n : ℕ) → product (ns ++ n ∷ []) ≡ product ns * n
product_behind [] n = omega arith
product_behind (m ∷ ns) n = ap (λ p. m * p) (product_behind ns n) ∙ sym (mul_assoc m (product ns) n)

pub product_grows : (ts : List TypeTree) (t : TypeTree) → product (map count (ts ++ t ∷ [])) ≡ product (map count ts) * count t
product_grows ts t = ap product (map-append count ts (t ∷ [])) ∙ product_behind (map count ts) (count t)

-- ---- room for one more variable

module _ (ts : List TypeTree) (t : TypeTree) (at variables stores : ℕ) (many : variables ≡ length ts) (counted : stores ≡ product (map count ts)) where
  pub no_room : (e : TypeError) → AnswersGrowth variables stores (count t) at (Err e) → Grows ts t at (Err e)
  no_room e (inl h) = inl (λ s q. (let low = q.0 in let full = h.0 in omega arith), h.1)
  no_room e (inr h) =
      let low : length ts < 32 = (let few = h.0 in omega arith) in
      let wide : 2 ^ 63 < product (map count ts) * count t = subst (λ s. 2 ^ 63 < s * count t) counted h.1 in
      inr (t, (low, refl), (λ s q. (let narrow = q.0 in omega arith), h.2))

  pub has_room : (grown : ℕ) → AnswersGrowth variables stores (count t) at (Ok grown) → Grows ts t at (Ok t)
  has_room grown h =
      let low : length ts < 32 = (let few = h.0 in omega arith) in
      (t, (low, refl), (subst (λ s. s * count t ≤ 2 ^ 63) counted h.1, refl))

-- ---- one declaration

-- what is answered of a declaration behind some variables is answered behind the same ones
pub answered_same : (vs ws : List code.Variable) (d : DeclTree) (r : Result Declaration TypeError) → vs ≡ ws → AnswersDecl (map variable_of vs) d r → AnswersDecl (map variable_of ws) d r
answered_same vs ws d r same = subst (λ us. AnswersDecl (map variable_of us) d r) same

module _ (vs : List Variable) (known : List Known) (agree : known ≡ known_of vs) (visible : Bool) (n : List ℕ) (at : ℕ) (y : TypeForm) (d : DistTree) where
  unknown_here : IsUnknown known n → IsUnknown (known_of vs) n
  unknown_here u = subst (λ ks. IsUnknown ks n) agree u

  pub twice : (text : List ℕ) (i : ℕ) (k : KindTree) → text ≡ n → IsKnown known text i k → JudgesDecl vs (declared visible (name n at) y d) (Err (broken.Twice at))
  twice text i k reads h =
      let here : IsKnown (known_of vs) n i k = subst (λ ks. IsKnown ks n i k) agree (subst (λ m. IsKnown known m i k) reads h) in
      inl (λ m q. not_unknown (known_of vs) n i k here q.0, refl)

  module _ (text : List ℕ) (reads : text ≡ n) (u : IsUnknown known text) where
    new : IsUnknown (known_of vs) n
    new = unknown_here (subst (λ m. IsUnknown known m) reads u)

    pub type_fails : (e : TypeError) → (e ≢ broken.Mem → JudgesType greatest_size y (Err e)) → e ≢ broken.Mem → JudgesDecl vs (declared visible (name n at) y d) (Err e)
    type_fails e h other = inr (n, (new, refl), inl (h other))

    module _ (t : TypeTree) (type : JudgesType greatest_size y (Ok t)) (variables stores : ℕ) (many : variables ≡ length (types_of vs)) (counted : stores ≡ product (map count (types_of vs))) where
      pub growth_fails : (e : TypeError) → AnswersGrowth variables stores (count t) at (Err e) → JudgesDecl vs (declared visible (name n at) y d) (Err e)
      growth_fails e h = inr (n, (new, refl), inr (t, type, inl (no_room (types_of vs) t at variables stores many counted e h)))

      module _ (grown : ℕ) (growth : AnswersGrowth variables stores (count t) at (Ok grown)) where
        fits : Grows (types_of vs) t at (Ok t)
        fits = has_room (types_of vs) t at variables stores many counted grown growth

        pub dist_fails : (k : KindTree) (e : TypeError) → k ≡ kind_of t → (e ≢ broken.Mem → AsksDist known k d (Err e)) → e ≢ broken.Mem → JudgesDecl vs (declared visible (name n at) y d) (Err e)
        dist_fails k e same h other = inr (n, (new, refl), inr (t, type, inr (t, fits, inl (subst (λ j. AsksDist (known_of vs) j d (Err e)) same (subst (λ ks. AsksDist ks k d (Err e)) agree (h other))))))

        pub declares : (k : KindTree) (e : DxTree) → k ≡ kind_of t → AsksDist known k d (Ok k) × (e ≡ dx_of (names_in known) d)
            → JudgesDecl vs (declared visible (name n at) y d) (Ok (record { name = n; type = t })) × (e ≡ decl_of (names_of vs) (declared visible (name n at) y d))
        declares k e same h = (
          (n, (new, refl), (t, type, (t, fits, (kind_of t, subst (λ j. AsksDist (known_of vs) j d (Ok j)) same (subst (λ ks. AsksDist ks k d (Ok k)) agree h.0), refl)))),
          h.1 ∙ ap (λ ks. dx_of (names_in ks) d) agree ∙ ap (λ names. dx_of names d) (names_of_known vs),
        )

-- ---- the loop

declared_new : (vs : List Variable) (d : DeclTree) (v : Variable) → JudgesDecl vs d (Ok v) → IsUnknown (known_of vs) v.name
declared_new vs (declared visible (name n at) y d) v h = (good_decl vs visible n at y d v h).new

declared_few : (vs : List Variable) (d : DeclTree) (v : Variable) → JudgesDecl vs d (Ok v) → length (types_of vs) < 32
declared_few vs (declared visible (name n at) y d) v h = (good_decl vs visible n at y d v h).few

-- the new variable is fresh, and there is room for it
module _ (vs : List Variable) (known : List Known) (agree : known ≡ known_of vs) (d : DeclTree) (v : Variable) (judged : JudgesDecl vs d (Ok v)) where
  pub fresh : IsUnknown known v.name
  fresh = subst (λ ks. IsUnknown ks v.name) (sym agree) (declared_new vs d v judged)

  pub room : length known < 32
  room =
      let low = declared_few vs d v judged in
      let types : length (types_of vs) ≡ length vs = length-map vs (λ w. w.type) in
      let all : length (known_of vs) ≡ length vs = length-map vs (λ w. record { name = w.name; kind = kind_of w.type }) in
      let same : length known ≡ length (known_of vs) = ap length agree in
      omega arith

pub head_built : (d : DeclTree) (ds : List DeclTree) → AreDeclsBuilt Takes (d ∷ ds) → AreDeclsBuilt Takes ds
head_built (declared visible n y d) ds b = b.2

-- a declaration's distribution is the same where further variables stand behind
decl_behind : (vs : List Variable) (d : DeclTree) (v : Variable) (later : List Variable) → JudgesDecl vs d (Ok v) → decl_of (names_of vs) d ≡ decl_of (names_of (vs ++ later)) d
decl_behind vs (declared visible (name n at) y d) v later h =
    let ours = dx_behind (known_of vs) (names_of later) d (kind_of v.type) (good_decl vs visible n at y d v h).drawn in
    ap (λ names. dx_of names d) (sym (names_of_known vs)) ∙ ours ∙ ap (λ names. dx_of (names ++ names_of later) d) (names_of_known vs) ∙ ap (λ names. dx_of names d) (sym (map-append (λ w. w.name) vs later))

-- The declarations that are done declare these variables, which are known, with these flags, these distributions and so many stores.
pub record DeclaredBefore (whole left : List DeclTree) (vs : List Variable) (es : List DxTree) (known : List Known) (flags : List Bool) (stores : ℕ) : Type 0 where
  pub judged : (r : Result (List Variable) TypeError) → JudgesDecls vs left r → JudgesDecls [] whole r
  pub translated : (ws : List Variable) → JudgesDecls vs left (Ok ws) → es ++ map (decl_of (names_of ws)) left ≡ map (decl_of (names_of ws)) whole
  pub built : AreDeclsBuilt Takes left
  pub agree : known ≡ known_of vs
  pub flagged : flags ++ map is_visible left ≡ map is_visible whole
  pub counted : stores ≡ product (map count (types_of vs))

module _ (whole left : List DeclTree) (vs : List Variable) (es : List DxTree) (known : List Known) (flags : List Bool) (stores : ℕ) (d : DeclTree) (before : DeclaredBefore whole (d ∷ left) vs es known flags stores) where
  pub declared_fails : (e : TypeError) → (e ≢ broken.Mem → JudgesDecl vs d (Err e)) → e ≢ broken.Mem → JudgesDecls [] whole (Err e)
  declared_fails e h other = before.judged (Err e) (inl (h other))

  next : (v : Variable) (e : DxTree) (k : KindTree) (after : List Known) (raised : List Bool) (grown : ℕ) → JudgesDecl vs d (Ok v) × (e ≡ decl_of (names_of vs) d) → k ≡ kind_of v.type
      → after ≡ known ++ record { name = v.name; kind = k } ∷ [] → raised ≡ flags ++ is_visible d ∷ [] → grown ≡ stores * count v.type
      → DeclaredBefore whole left (vs ++ v ∷ []) (es ++ e ∷ []) after raised grown
  next v e k after raised grown h same is shown wide =
      let types : types_of (vs ++ v ∷ []) ≡ types_of vs ++ v.type ∷ [] = map-append (λ w. w.type) vs (v ∷ []) in
      let all : known_of (vs ++ v ∷ []) ≡ known_of vs ++ record { name = v.name; kind = kind_of v.type } ∷ [] = map-append (λ w. record { name = w.name; kind = kind_of w.type }) vs (v ∷ []) in
      record {
        judged = λ r j. before.judged r (past (JudgesDecl vs d) (λ w. JudgesDecls (vs ++ w ∷ []) left) v r h.0 j);
        translated = λ ws j.
            let behind = extended (vs ++ v ∷ []) ws left j in
            let whole : ws ≡ vs ++ v ∷ behind.0 = behind.1 ∙ append_assoc vs (v ∷ []) behind.0 in
            let here : e ≡ decl_of (names_of ws) d = h.1 ∙ decl_behind vs d v (v ∷ behind.0) h.0 ∙ ap (λ us. decl_of (names_of us) d) (sym whole) in
            append_assoc es (e ∷ []) (map (decl_of (names_of ws)) left) ∙ (ap (λ z. es ++ z ∷ map (decl_of (names_of ws)) left) here ∙ before.translated ws (v, h.0, j));
        built = head_built d left before.built;
        agree = is ∙ (ap (λ ks. ks ++ record { name = v.name; kind = k } ∷ []) before.agree ∙ (ap (λ j. known_of vs ++ record { name = v.name; kind = j } ∷ []) same ∙ sym all));
        flagged = ap (λ bs. bs ++ map is_visible left) shown ∙ (append_assoc flags (is_visible d ∷ []) (map is_visible left) ∙ before.flagged);
        counted = wide ∙ (ap (λ s. s * count v.type) before.counted ∙ (sym (product_grows (types_of vs) v.type) ∙ ap (λ ts. product (map count ts)) (sym types)));
      }

pub declared_more : (whole left : List DeclTree) (ws : List code.Variable) (fs : List Dx) (known : List Known) (flags : List Bool) (stores : ℕ) (d : DeclTree) → DeclaredBefore whole (d ∷ left) (map variable_of ws) (map dx_tree fs) known flags stores
    → (w : code.Variable) (f : Dx) (k : KindTree) (after : List Known) (raised : List Bool) (grown : ℕ) → JudgesDecl (map variable_of ws) d (Ok (variable_of w)) × (dx_tree f ≡ decl_of (names_of (map variable_of ws)) d)
    → k ≡ kind_of (variable_of w).type → after ≡ known ++ record { name = (variable_of w).name; kind = k } ∷ [] → raised ≡ flags ++ is_visible d ∷ [] → grown ≡ stores * count (variable_of w).type
    → DeclaredBefore whole left (map variable_of (ws ++ w ∷ [])) (map dx_tree (fs ++ f ∷ [])) after raised grown
declared_more whole left ws fs known flags stores d before w f k after raised grown h same is shown wide =
    rw (map-append variable_of ws (w ∷ []), map-append dx_tree fs (f ∷ [])) (next whole left (map variable_of ws) (map dx_tree fs) known flags stores d before (variable_of w) (dx_tree f) k after raised grown h same is shown wide)

pub declared_all : (whole : List DeclTree) (vs : List Variable) (es : List DxTree) (known : List Known) (flags : List Bool) (stores : ℕ) → DeclaredBefore whole [] vs es known flags stores
    → JudgesDecls [] whole (Ok vs) × (es ≡ map (decl_of (names_of vs)) whole) × (flags ≡ map is_visible whole)
declared_all whole vs es known flags stores h = (h.judged (Ok vs) refl, sym (append-nil es) ∙ h.translated vs refl, sym (append-nil flags) ∙ h.flagged)
