-- Members of lists by recursion, and the runs that make up others.
use Rattle.std.proofs.Common.{◌≡◌, ℕ, suc, zero, List, [], ◌∷◌, ◌++◌, All, map, Result, Ok, Err, ◌⊎◌, inl, inr, refl, sym, ap, subst, ◌∙◌, true≢false, arith}
use Rattle.std.specs.Prelude.{is_ok, IsOk}
use Rattle.std.specs.List.{flat_map}
use Rattle.std.proofs.lemmas.List.Elements.{All-head, All-tail}
use Rattle.kf_value.specs.Values.{ValueTree}
use Rattle.kf_column.proofs.AtMostOne.{In}
use Rattle.kf_core.specs.Choices.{Weighted, total}
use Rattle.kf_core.specs.Runs.{Run, Halted, Tried, joined, chain, choice_run, branched}
use Rattle.kf_core.specs.Each.{onward}

-- P holds of each member
abbrev pub Every : {X : Type 0} → (X → Type 0) → List X → Type 0
Every {X} P xs = (x : X) → In x xs → P x

module _ {X : Type 0} (P : X → Type 0) where
  pub every_all : (xs : List X) → Every P xs → All P xs
  every_all [] h k d within = absurd (omega (arith, within))
  every_all (x ∷ xs) h zero d within = h x (inl refl)
  every_all (x ∷ xs) h (suc k) d within = every_all xs (λ y is. h y (inr is)) k d (omega (arith, within))

  pub all_every : (xs : List X) → All P xs → Every P xs
  all_every [] h x is = absurd is
  all_every (y ∷ ys) h x (inl is) = subst P (sym is) (All-head P y ys h)
  all_every (y ∷ ys) h x (inr is) = all_every ys (All-tail P y ys h) x is

module _ {X : Type 0} (x : X) where
  pub in_left : (xs ys : List X) → In x xs → In x (xs ++ ys)
  in_left [] ys h = absurd h
  in_left (z ∷ zs) ys (inl is) = inl is
  in_left (z ∷ zs) ys (inr is) = inr (in_left zs ys is)

  pub in_right : (xs ys : List X) → In x ys → In x (xs ++ ys)
  in_right [] ys h = h
  in_right (z ∷ zs) ys h = inr (in_right zs ys h)

  further : (z : X) (zs ys : List X) → In x zs ⊎ In x ys → In x (z ∷ zs) ⊎ In x ys
  further z zs ys (inl h) = inl (inr h)
  further z zs ys (inr h) = inr h

  pub in_either : (xs ys : List X) → In x (xs ++ ys) → In x xs ⊎ In x ys
  in_either [] ys h = inr h
  in_either (z ∷ zs) ys (inl is) = inl (inl is)
  in_either (z ∷ zs) ys (inr is) = further z zs ys (in_either zs ys is)

module _ {X Y : Type 0} where
  pub in_map : (f : X → Y) (x : X) (xs : List X) → In x xs → In (f x) (map f xs)
  in_map f x [] h = absurd h
  in_map f x (z ∷ zs) (inl is) = inl (ap f is)
  in_map f x (z ∷ zs) (inr is) = inr (in_map f x zs is)

  pub in_flat : (f : X → List Y) (x : X) (y : Y) (xs : List X) → In x xs → In y (f x) → In y (flat_map f xs)
  in_flat f x y [] h k = absurd h
  in_flat f x y (z ∷ zs) (inl is) k = in_left y (f z) (flat_map f zs) (subst (λ (u : X). In y (f u)) is k)
  in_flat f x y (z ∷ zs) (inr is) k = in_right y (f z) (flat_map f zs) (in_flat f x y zs is k)

  pub of_map : (f : X → Y) (y : Y) (xs : List X) → In y (map f xs) → (x : X) × In x xs × (y ≡ f x)
  of_map f y [] h = absurd h
  of_map f y (z ∷ zs) (inl is) = (z, inl refl, is)
  of_map f y (z ∷ zs) (inr is) = let r = of_map f y zs is in (r.0, inr r.1, r.2)

  flat_either : (f : X → List Y) (y : Y) (z : X) (zs : List X) → (In y (flat_map f zs) → (x : X) × In x zs × In y (f x))
      → In y (f z) ⊎ In y (flat_map f zs) → (x : X) × In x (z ∷ zs) × In y (f x)
  flat_either f y z zs rest (inl k) = (z, inl refl, k)
  flat_either f y z zs rest (inr k) = let r = rest k in (r.0, inr r.1, r.2)

  pub of_flat : (f : X → List Y) (y : Y) (xs : List X) → In y (flat_map f xs) → (x : X) × In x xs × In y (f x)
  of_flat f y [] h = absurd h
  of_flat f y (z ∷ zs) h = flat_either f y z zs (of_flat f y zs) (in_either y (f z) (flat_map f zs) h)

-- the run with this end
abbrev pub ending : Run → Result ℕ Halted → Run
ending r x = record { trace = r.trace; end = x; weight = r.weight; scale = r.scale }

-- ---- chains

-- a run of a chain that ends is a first run that ends, and another from there
pub record Parts (rs : List Run) (next : ℕ → List Run) (p : Run) : Type 0 where
  pub first : Run
  pub between : ℕ
  pub second : Run
  pub has_first : In first rs
  pub ends : first.end ≡ Ok between
  pub has_second : In second (next between)
  pub is : p ≡ joined first second

module _ (next : ℕ → List Run) (p : Run) where
  onward_parts : (rs : List Run) (r : Run) (x : Result ℕ Halted) → In r rs → r.end ≡ x → IsOk p.end → In p (onward next r x) → Parts rs next p
  onward_parts rs r (Ok n) has same ends h =
      let m = of_map (joined r) p (next n) h in
      record { first = r; between = n; second = m.0; has_first = has; ends = same; has_second = m.1; is = m.2 }
  onward_parts rs r (Err f) has same ends (inl is) =
      let e : p.end ≡ Err f = ap (λ (q : Run). q.end) is ∙ same in
      absurd (true≢false (sym ends ∙ ap is_ok e))
  onward_parts rs r (Err f) has same ends (inr h) = absurd h

  pub chain_parts : (rs : List Run) → IsOk p.end → In p (chain rs next) → Parts rs next p
  chain_parts rs ends h =
      let m = of_flat (λ r. onward next r r.end) p rs h in
      onward_parts rs m.0 m.0.end m.1 refl ends m.2

module _ (next : ℕ → List Run) where
  pub in_chain : (rs : List Run) (r : Run) (n : ℕ) (q : Run) → In r rs → r.end ≡ Ok n → In q (next n) → In (joined r q) (chain rs next)
  in_chain rs r n q has ends second =
      in_flat (λ r. onward next r r.end) r (joined r q) rs has
      (subst (λ (x : Result ℕ Halted). In (joined r q) (onward next r x)) (sym ends) (in_map (joined r) q (next n) second))

  pub halts_in_chain : (rs : List Run) (r : Run) (f : Halted) → In r rs → r.end ≡ Err f → In r (chain rs next)
  halts_in_chain rs r f has ends =
      in_flat (λ r. onward next r r.end) r r rs has (subst (λ (x : Result ℕ Halted). In r (onward next r x)) (sym ends) (inl refl))

-- ---- choices

-- a run behind a choice that ends is the choice's, and another for its value
pub record Picks (leak : ValueTree → List ValueTree) (n : ℕ) (next : ValueTree → List Run) (g : Tried) (p : Run) : Type 0 where
  pub choices : List Weighted
  pub tried_is : g ≡ Ok choices
  pub choice : Weighted
  pub has_choice : In choice choices
  pub second : Run
  pub has_second : In second (next choice.value)
  pub is : p ≡ joined (choice_run leak n (total choices) choice) second

module _ (leak : ValueTree → List ValueTree) (n : ℕ) (next : ValueTree → List Run) where
  pub branched_picks : (g : Tried) (p : Run) → IsOk p.end → In p (branched leak n next g) → Picks leak n next g p
  branched_picks (Ok ws) p ends h =
      let m = of_flat (λ w. map (joined (choice_run leak n (total ws) w)) (next w.value)) p ws h in
      let s = of_map (joined (choice_run leak n (total ws) m.0)) p (next m.0.value) m.2 in
      record { choices = ws; tried_is = refl; choice = m.0; has_choice = m.1; second = s.0; has_second = s.1; is = s.2 }
  branched_picks (Err f) p ends (inl is) = absurd (true≢false (sym ends ∙ ap (λ (q : Run). is_ok q.end) is))
  branched_picks (Err f) p ends (inr h) = absurd h

  pub in_branched : (ws : List Weighted) (w : Weighted) (q : Run) → In w ws → In q (next w.value)
      → In (joined (choice_run leak n (total ws) w) q) (branched leak n next (Ok ws))
  in_branched ws w q has second =
      in_flat (λ u. map (joined (choice_run leak n (total ws) u)) (next u.value)) w (joined (choice_run leak n (total ws) w) q) ws has
      (in_map (joined (choice_run leak n (total ws) w)) q (next w.value) second)
