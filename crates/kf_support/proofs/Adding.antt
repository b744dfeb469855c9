-- What holds of all ways to stores, and stays so with one more.
use Rattle.std.proofs.Common.{◌≡◌, ℕ, suc, ◌+◌, ◌-◌, length, take, get_or, ◌<◌, ◌≤◌, ◌^◌, [], ◌∷◌, ◌++◌, Option, Some, None, refl, sym, ap, ◌∙◌, subst, arith}
use Rattle.std.proofs.Math.Seq.{take-suc}
use Rattle.std.proofs.lemmas.List.{take_all}
use Rattle.std.specs.declared.cmp.Ordering.{Ordering}
use Rattle.std.specs.declared.cmp.Ordering.TheVariants.{Less, Equal, Greater}
use Rattle.std.specs.Ordering.{nat_cmp, match_ordering}
use Rattle.std.specs.Option.{IfSome}
use Rattle.std.specs.BTreeMap.{insert_entry, is_at}
use Rattle.std.specs.Map.{lookup}
use Rattle.std.proofs.lemmas.List.Elements.{All-head, All-tail, All-nil, All-cons, All-weaker}
use Rattle.std.proofs.lemmas.Map.Entries.{All-lookup}
use Rattle.kf_frac.specs.Divisors.{lcm_of}
use Rattle.kf_frac.proofs.CommonMultiples.{lcm_is}
use Rattle.kf_support.specs.Answers.{AreWays}
use Rattle.kf_support.specs.Carried.{Reached, capped, met, with_way, with_all, scale_in}

-- a scale as far as it is told
abbrev pub IsScale : ℕ → Type 0
IsScale s = (1 ≤ s) × (s ≤ 2 ^ 127)

abbrev pub IsWay : ℕ → ℕ × ℕ → Type 0
IsWay size e = (e.0 < size) × IsScale e.1

pub wider : (a b : ℕ) (es : Reached) → a ≤ b → AreWays a es → AreWays b es
wider a b es most ways = All-weaker (IsWay a) (IsWay b) (λ e h. let below = h.0 in let low : e.0 < b = omega arith in (low, h.1)) es ways

pub capped_scale : (n : ℕ) → 1 ≤ n → IsScale (capped n)
capped_scale n some = (omega arith, omega arith)

pub common_scale : (a b : ℕ) → 1 ≤ a → 1 ≤ b → IsScale (capped (lcm_of a b))
common_scale a b p q = capped_scale (lcm_of a b) (lcm_is a b p q).positive

met_scale : (old : Option ℕ) (scale : ℕ) → IfSome old IsScale → IsScale scale → IsScale (met old scale)
met_scale None scale h k = k
met_scale (Some old) scale h k = common_scale old scale h.0 k.0

-- the scale of a store that is reached
pub found_scale : (size n : ℕ) (es : Reached) → AreWays size es → IfSome (lookup (is_at (nat_cmp n)) es) IsScale
found_scale size n es ways = All-lookup IsScale (is_at (nat_cmp n)) es (All-weaker (IsWay size) (λ e. IsScale e.1) (λ e h. h.1) es ways)

placed : (size n scale : ℕ) (e : ℕ × ℕ) (es rest : Reached) (o : Ordering) → IsWay size (n, scale) → AreWays size (e ∷ es) → AreWays size rest
    → AreWays size (match_ordering o ((n, scale) ∷ e ∷ es) ((e.0, scale) ∷ es) (e ∷ rest))
placed size n scale e es rest Less way ways more = All-cons (IsWay size) (n, scale) (e ∷ es) way ways
placed size n scale e es rest Equal way ways more =
    All-cons (IsWay size) (e.0, scale) es ((All-head (IsWay size) e es ways).0, way.1) (All-tail (IsWay size) e es ways)
placed size n scale e es rest Greater way ways more = All-cons (IsWay size) e rest (All-head (IsWay size) e es ways) more

inserted : (size n scale : ℕ) (es : Reached) → IsWay size (n, scale) → AreWays size es → AreWays size (insert_entry nat_cmp es n scale)
inserted size n scale [] way ways = All-cons (IsWay size) (n, scale) [] way ways
inserted size n scale (e ∷ es) way ways =
    placed size n scale e es (insert_entry nat_cmp es n scale) (nat_cmp n e.0) way ways (inserted size n scale es way (All-tail (IsWay size) e es ways))

pub way_added : (size n scale : ℕ) (es : Reached) → n < size → IsScale scale → AreWays size es → AreWays size (with_way es n scale)
way_added size n scale es below is ways =
    let old = lookup (is_at (nat_cmp n)) es in
    inserted size n (met old scale) es (below, met_scale old scale (found_scale size n es ways) is) ways

pub no_ways : (size : ℕ) → AreWays size []
no_ways size = All-nil (IsWay size)

pub first_way : (size : ℕ) (e : ℕ × ℕ) (es fs : Reached) → fs ≡ e ∷ es → AreWays size fs → IsWay size e × AreWays size es
first_way size e es fs same ways =
    let known = subst (AreWays size) same ways in
    (All-head (IsWay size) e es known, All-tail (IsWay size) e es known)

-- ---- all ways

pub all_added : (size : ℕ) (es fs : Reached) → AreWays size es → AreWays size fs → AreWays size (with_all es fs)
all_added size es [] ways others = ways
all_added size es (f ∷ fs) ways others =
    let way = All-head (IsWay size) f fs others in
    all_added size (with_way es f.0 f.1) fs (way_added size f.0 f.1 es way.0 way.1 ways) (All-tail (IsWay size) f fs others)

-- ---- the scale of all ways

abbrev pub scale_onto : Reached → ℕ → ℕ
scale_onto [] s = s
scale_onto (e ∷ es) s = capped (lcm_of e.1 (scale_onto es s))

scale_onto-one : (es : Reached) → scale_onto es 1 ≡ scale_in es
scale_onto-one [] = refl
scale_onto-one (e ∷ es) = ap (λ s. capped (lcm_of e.1 s)) (scale_onto-one es)

scale_onto-last : (es : Reached) (e : ℕ × ℕ) (s : ℕ) → scale_onto (es ++ e ∷ []) s ≡ scale_onto es (capped (lcm_of e.1 s))
scale_onto-last [] e s = refl
scale_onto-last (f ∷ es) e s = ap (λ s. capped (lcm_of f.1 s)) (scale_onto-last es e s)

-- the ways that are left, from the last one on
pub record ScaledFrom (left whole : Reached) (scale : ℕ) : Type 0 where
  pub all : scale_onto left scale ≡ scale_in whole
  pub size : ℕ
  pub ways : AreWays size left
  pub some : 1 ≤ scale

pub scaled_start : (es : Reached) (size : ℕ) → AreWays size es → ScaledFrom es es 1
scaled_start es size ways = record { all = scale_onto-one es; size = size; ways = ways; some = omega arith }

front_ways : (size : ℕ) (es : Reached) (e : ℕ × ℕ) → AreWays size (es ++ e ∷ []) → AreWays size es × IsWay size e
front_ways size [] e ways = (no_ways size, All-head (IsWay size) e [] ways)
front_ways size (f ∷ es) e ways =
    let rest = front_ways size es e (All-tail (IsWay size) f (es ++ e ∷ []) ways) in
    (All-cons (IsWay size) f es (All-head (IsWay size) f (es ++ e ∷ []) ways) rest.0, rest.1)

module _ (e : ℕ × ℕ) (es whole : Reached) (scale : ℕ) (left : ScaledFrom (es ++ e ∷ []) whole scale) where
  pub scaled_some : 1 ≤ e.1
  scaled_some = (front_ways left.size es e left.ways).1.1.0

  pub scaled_step : ScaledFrom es whole (capped (lcm_of e.1 scale))
  scaled_step = record {
    all = sym (scale_onto-last es e scale) ∙ left.all;
    size = left.size;
    ways = (front_ways left.size es e left.ways).0;
    some = (common_scale e.1 scale scaled_some left.some).0;
  }

-- the list from its last way on
module _ (es : Reached) where
  pub scaled_whole : (size : ℕ) → AreWays size es → ScaledFrom (take (length es - 0) es) es 1
  scaled_whole size ways = subst (λ fs. ScaledFrom fs es 1) (sym (take_all (length es - 0) es (omega arith))) (scaled_start es size ways)

  module _ (i scale : ℕ) (within : i < length es) (left : ScaledFrom (take (length es - i) es) es scale) where
    abbrev last_left : ℕ × ℕ
    last_left = get_or es (length es - 1 - i) (0, 0)

    one_less : ScaledFrom (take (length es - (i + 1)) es ++ last_left ∷ []) es scale
    one_less =
        let here : length es - i ≡ suc (length es - (i + 1)) = omega (arith, within) in
        let at : length es - (i + 1) ≡ length es - 1 - i = omega arith in
        subst (λ fs. ScaledFrom fs es scale)
        (ap (λ k. take k es) here ∙ (take-suc es (length es - (i + 1)) (0, 0) (omega (arith, within)) ∙ ap (λ k. take (length es - (i + 1)) es ++ get_or es k (0, 0) ∷ []) at)) left

    pub scaled_less : ScaledFrom (take (length es - (i + 1)) es) es (capped (lcm_of last_left.1 scale))
    scaled_less = scaled_step last_left (take (length es - (i + 1)) es) es scale one_less
