-- What holds of each way on from a store: of where it ends and of its scale, or, where it stops at a fault, of its scale alone.
use Rattle.std.proofs.Common.{◌≡◌, ℕ, ◌*◌, ◌<◌, List, [], ◌∷◌, ◌++◌, map, Result, Ok, Err, refl, sym, subst, ◌↔◌, Bool, true, false, not, ◌||◌, true≢false}
use Rattle.std.specs.Prelude.{if◌then◌else◌}
use Rattle.std.specs.List.{AllByRecursion as Each, list_any, flat_map}
use Rattle.std.specs.Int.{◌∣◌}
use Rattle.std.proofs.Math.Nat.{mul_assoc}
use Rattle.kf_value.specs.Values.{ValueTree}
use Rattle.kf_core.specs.Choices.{Weighted, total}
use Rattle.kf_core.specs.Runs.{Run, Halted, Tried, joined, chain, choice_run, branched, stay}
use Rattle.kf_core.specs.Results.{then_ok}
use Rattle.kf_core.specs.Support.{can_be}
use Rattle.kf_core.proofs.RunEnds.{side}
use Rattle.kf_core.specs.Leaks.{shown}
use Rattle.kf_core.specs.Each.{onward}
use Rattle.kf_support.specs.Carried.{capped}
use Rattle.kf_support.proofs.Dividing.{bound, lcm_splits, capped_same}
use Rattle.kf_frac.specs.Divisors.{lcm_of}
use Rattle.kf_support.proofs.Placing.{through, back, beside, each_same, each_pair, Post, Nice, Led, Works, Lands, at_one}

abbrev pub End : Type 0
End = Result ℕ Halted

abbrev pub At : ℕ → Post → End → ℕ → Type 0
At k Q (Ok n) v = Q n v
At k Q (Err f) v = v ∣ k

-- on ways of this scale to where the runs begin
abbrev pub Leads : ℕ → Post → List Run → ℕ → Type 0
Leads k Q rs v = Each (λ r. At k Q r.end (v * r.scale)) rs

module _ {X : Type 0} (P : X → Type 0) where
  pub each_joined : (xs ys : List X) → Each P (xs ++ ys) ↔ (Each P xs × Each P ys)
  each_joined [] ys = (λ h. (tt, h), λ h. h.1)
  each_joined (x ∷ xs) ys = let l = each_joined xs ys in (λ h. let r = l.0 h.1 in ((h.0, r.0), r.1), λ h. (h.0.0, l.1 (h.0.1, h.1)))

module _ {X Y : Type 0} (P : Y → Type 0) (f : X → Y) where
  pub each_mapped : (xs : List X) → Each P (map f xs) ↔ Each (λ x. P (f x)) xs
  each_mapped [] = (λ h. tt, λ h. tt)
  each_mapped (x ∷ xs) = let l = each_mapped xs in (λ h. (h.0, l.0 h.1), λ h. (h.0, l.1 h.1))

module _ {X Y : Type 0} (P : Y → Type 0) (f : X → List Y) where
  pub each_flat : (xs : List X) → Each P (flat_map f xs) ↔ Each (λ x. Each P (f x)) xs
  each_flat [] = (λ h. tt, λ h. tt)
  each_flat (x ∷ xs) = through (each_joined P (f x) (flat_map f xs)) (beside (λ h. h, λ h. h) (each_flat xs))

module _ (k : ℕ) (Q : ℕ → ℕ → Type 0) where
  at_scale : (x : End) (v w : ℕ) → v ≡ w → At k Q x v ↔ At k Q x w
  at_scale x v w is = (λ h. subst (λ n. At k Q x n) is h, λ h. subst (λ n. At k Q x n) (sym is) h)

  -- one run, and on from there
  pub leads_joined : (v : ℕ) (r : Run) (qs : List Run) → Leads k Q (map (joined r) qs) v ↔ Leads k Q qs (v * r.scale)
  leads_joined v r qs =
      through (each_mapped (λ (q : Run). At k Q q.end (v * q.scale)) (joined r) qs)
      (each_same (λ (q : Run). At k Q q.end (v * (r.scale * q.scale))) (λ (q : Run). At k Q q.end (v * r.scale * q.scale))
      (λ q. at_scale q.end (v * (r.scale * q.scale)) (v * r.scale * q.scale) (sym (mul_assoc v r.scale q.scale))) qs)

  module _ (next : ℕ → List Run) (v : ℕ) where
    leads_onward : (r : Run) (x : End) → r.end ≡ x → Leads k Q (onward next r x) v ↔ At k (λ n w. Leads k Q (next n) w) x (v * r.scale)
    leads_onward r (Ok n) is = leads_joined v r (next n)
    leads_onward r (Err f) is = (
      λ h. subst (λ (y : End). At k Q y (v * r.scale)) is h.0,
      λ h. (subst (λ (y : End). At k Q y (v * r.scale)) (sym is) h, tt),
    )

    pub leads_chain : (rs : List Run) → Leads k Q (chain rs next) v ↔ Leads k (λ n w. Leads k Q (next n) w) rs v
    leads_chain rs =
        through (each_flat (λ (q : Run). At k Q q.end (v * q.scale)) (λ (r : Run). onward next r r.end) rs)
        (each_same (λ (r : Run). Leads k Q (onward next r r.end) v) (λ (r : Run). At k (λ n w. Leads k Q (next n) w) r.end (v * r.scale)) (λ r. leads_onward r r.end refl) rs)

  pub leads_stay : (n v : ℕ) → Leads k Q (stay n) v ↔ Q n v
  leads_stay n v = through (λ h. h.0, λ h. (h, tt)) (at_one (Q n) v)

  pub leads_branched : (leak : ValueTree → List ValueTree) (n : ℕ) (next : ValueTree → List Run) (ws : List Weighted) (v : ℕ)
      → Leads k Q (branched leak n next (Ok ws)) v ↔ Each (λ w. Leads k Q (next w.value) (v * total ws)) ws
  leads_branched leak n next ws v =
      through (each_flat (λ (q : Run). At k Q q.end (v * q.scale)) (λ w. map (joined (choice_run leak n (total ws) w)) (next w.value)) ws)
      (each_same (λ (w : Weighted). Leads k Q (map (joined (choice_run leak n (total ws) w)) (next w.value)) v) (λ (w : Weighted). Leads k Q (next w.value) (v * total ws))
      (λ w. leads_joined v (choice_run leak n (total ws) w) (next w.value)) ws)

-- ---- common multiples and capped scales

module _ (k : ℕ) (p : 0 < k) (low : k < bound) where
  pub divides_nice : Nice (λ n v. v ∣ k)
  divides_nice = record { joins = λ n a b s. lcm_splits k p a b s; caps = λ n a s. capped_same k p low a s }

  module _ (Q : ℕ → ℕ → Type 0) (nice : Nice Q) where
    at_joins : (x : End) (a b s : ℕ) → At k Q x (lcm_of a b * s) ↔ (At k Q x (a * s) × At k Q x (b * s))
    at_joins (Ok n) a b s = nice.joins n a b s
    at_joins (Err f) a b s = lcm_splits k p a b s

    at_caps : (x : End) (a s : ℕ) → At k Q x (capped a * s) ↔ At k Q x (a * s)
    at_caps (Ok n) a s = nice.caps n a s
    at_caps (Err f) a s = capped_same k p low a s

    grouped : (x : End) (a s t : ℕ) → At k Q x (a * s * t) ↔ At k Q x (a * (s * t))
    grouped x a s t = at_scale k Q x (a * s * t) (a * (s * t)) (mul_assoc a s t)

    pub leads_nice : (from : ℕ → List Run) → Nice (λ n v. Leads k Q (from n) v)
    leads_nice from = record {
      joins = λ n a b s.
          through (each_same (λ (r : Run). At k Q r.end (lcm_of a b * s * r.scale)) (λ (r : Run). At k Q r.end (a * s * r.scale) × At k Q r.end (b * s * r.scale))
          (λ r. through (grouped r.end (lcm_of a b) s r.scale)
          (through (at_joins r.end a b (s * r.scale)) (beside (back (grouped r.end a s r.scale)) (back (grouped r.end b s r.scale))))) (from n))
          (each_pair (λ (r : Run). At k Q r.end (a * s * r.scale)) (λ (r : Run). At k Q r.end (b * s * r.scale)) (from n));
      caps = λ n a s.
          each_same (λ (r : Run). At k Q r.end (capped a * s * r.scale)) (λ (r : Run). At k Q r.end (a * s * r.scale))
          (λ r. through (grouped r.end (capped a) s r.scale) (through (at_caps r.end a (s * r.scale)) (back (grouped r.end a s r.scale)))) (from n);
    }

-- ---- guards

-- the side that each value takes
module _ (test : ValueTree → Bool) (L : List Run → Type 0) (xs ys : List Run) where
  abbrev Sided : List Weighted → Type 0
  Sided ws = Each (λ w. L (if test w.value then xs else ys)) ws

  abbrev Sides : Bool → Bool → Type 0
  Sides on off = (on ≡ true → L xs) × (off ≡ true → L ys)

  sides_more : (b on off : Bool) → (L (if b then xs else ys) × Sides on off) ↔ Sides (b || on) (not b || off)
  sides_more true on off = (λ h. (λ e. h.0, λ e. h.1.1 e), λ h. (h.0 refl, (λ e. h.0 refl, λ e. h.1 e)))
  sides_more false on off = (λ h. (λ e. h.1.0 e, λ e. h.0), λ h. (h.1 refl, (λ e. h.0 e, λ e. h.1 refl)))

  pub sided : (ws : List Weighted) → Sided ws ↔ Sides (list_any (λ w. test w.value) ws) (list_any (λ w. not (test w.value)) ws)
  sided [] = (λ h. (λ e. absurd (true≢false (sym e)), λ e. absurd (true≢false (sym e))), λ h. tt)
  sided (w ∷ ws) = through (beside (λ h. h, λ h. h) (sided ws)) (sides_more (test w.value) (list_any (λ u. test u.value) ws) (list_any (λ u. not (test u.value)) ws))

-- where it may stay
pub stays_if : (P : ℕ → Type 0) (n : ℕ) (b : Bool) → Each P (if b then n ∷ [] else []) ↔ (b ≡ true → P n)
stays_if P n true = (λ h e. h.0, λ h. (h refl, tt))
stays_if P n false = (λ h e. absurd (true≢false (sym e)), λ h. tt)

-- what a guard with choices leads to, at each value
abbrev pub guard_to : Bool → ℕ → Tried → Led
guard_to b n g = then_ok g (λ ws. Ok (if can_be b (Ok ws) then n ∷ [] else [], total ws))

module _ (k : ℕ) (Q : ℕ → ℕ → Type 0) (on off : ℕ → List Run) (n v : ℕ) where
  pub leads_guarded : (g : Tried) → Works g
      → Leads k Q (branched shown n (side (on n) (off n)) g) v
      ↔ (Lands (guard_to true n g) (λ m w. Leads k Q (on m) w) v × Lands (guard_to false n g) (λ m w. Leads k Q (off m) w) v)
  leads_guarded (Ok ws) works =
      through (leads_branched k Q shown n (side (on n) (off n)) ws v)
      (through (sided _ (λ rs. Leads k Q rs (v * total ws)) (on n) (off n) ws)
      (back (beside (stays_if (λ m. Leads k Q (on m) (v * total ws)) n (can_be true (Ok ws))) (stays_if (λ m. Leads k Q (off m) (v * total ws)) n (can_be false (Ok ws))))))
  leads_guarded (Err f) works = absurd works
