-- The actions of a table, one after the other: each with what it gains, and the best so far.
use Rattle.std.proofs.Common.{◌≡◌, ℕ, ◌+◌, ◌*◌, ◌<◌, ◌≤◌, List, [], ◌∷◌, ◌++◌, map, refl, sym, ◌∙◌, ap, ap₂, subst, arith, length, take, get_or}
use Rattle.std.specs.Prelude.{ℤ, ◌≤ℤ◌, unsigned_abs, Contains}
use Rattle.std.specs.Int.{int_max}
use Rattle.std.specs.List.{AllZip, range_with_len}
use Rattle.std.proofs.lemmas.List.{get_or_default, length-map, map-append, map-id, take_all}
use Rattle.std.proofs.lemmas.List.FromFn.{map-range_with_len_more}
use Rattle.kf_frac.specs.declared.frac.Frac.{Frac}
use Rattle.kf_frac.specs.Parts.{IsFraction}
use Rattle.kf_column.specs.declared.entry.Entry.{Entry}
use Rattle.kf_column.specs.Columns.{IsColumn, total}
use Rattle.kf_column.proofs.Scaling.{total_positive}
use Rattle.kf_gain.specs.declared.table.Action.{Action}
use Rattle.kf_gain.specs.Gains.{Table, TableTree}
use Rattle.kf_gain.specs.Worth.{gained}
use Rattle.kf_gain.specs.Vulnerabilities.{greatest, gains_of, width}
use Rattle.kf_gain.proofs.Acting.{Best, best_is, action_within, reached_next, bounds_next}
use Rattle.kf_gain.proofs.Measures.{longer_total}
use Rattle.kf_attack.specs.declared.attack.Best.TheVariants as best
use Rattle.kf_attack.specs.declared.attack.Score.{Score}
use Rattle.kf_attack.specs.Attacks.{Scores}
use Rattle.kf_attack.specs.Inners.{IsShownBest}
use Rattle.kf_attack.specs.Views.{ShowsScore, places, scored}
use Rattle.kf_attack.proofs.Zips.{zip_next, zip_mapped}

positive : (t o : ℕ) → 0 < t → 0 < o → 0 < t * o
positive t o some more = grind arith

module _ (t : TableTree) (column : List Entry) (is : IsColumn column) (some : 0 < t.over) where
  pub whole_positive : 0 < total column * t.over
  whole_positive = positive (total column) t.over (total_positive column is) some

  module _ (room : ℕ) (fits : total column * width (Table t) (length column) ≤ room) where
    pub whole_fits : total column * t.over ≤ room
    whole_fits = omega (arith, longer_total (total column) t.over (width (Table t) (length column)) (omega arith), fits)

    pub total_fits : total column ≤ room
    total_fits = omega (arith, longer_total (total column) 1 t.over some, whole_fits)

    pub gains_fit : total column * greatest (gains_of t) ≤ room
    gains_fit = omega (arith, longer_total (total column) (greatest (gains_of t)) (width (Table t) (length column)) (omega arith), fits)

    pub gained_fits : (a : Action) (z : ℤ) → Contains t.actions a → z ≡ gained t.rest a.gains column → unsigned_abs z ≤ room
    gained_fits a z there is = omega (arith, ap unsigned_abs is, action_within t a column there, gains_fit)

-- an action in its turn
module _ (t : TableTree) (column : List Entry) (whole i : ℕ) (inside : i < length t.actions) (a : Action)
    (here : a ≡ get_or t.actions i (record { name = []; gains = [] })) (new : ℤ) (gains : new ≡ gained t.rest a.gains column) where
  itself : a ≡ get_or t.actions i a
  itself = here ∙ get_or_default t.actions i (record { name = []; gains = [] }) a inside

  pub score_next : (scores : List Score) (f : Frac) → IsFraction f new whole
      → AllZip (λ a s. ShowsScore t.actions whole (scored t column a) s) (take i t.actions) scores
      → AllZip (λ a s. ShowsScore t.actions whole (scored t column a) s) (take (i + 1) t.actions) (scores ++ record { action = i; score = f } ∷ [])
  score_next scores f fraction had =
      let s : Score = record { action = i; score = f } in
      let shows : ShowsScore t.actions whole (scored t column a) s =
      record { within = inside; name = ap (λ (b : Action). b.name) (sym here); score = subst (λ (z : ℤ). IsFraction f z whole) gains fraction } in
      zip_next (λ a s. ShowsScore t.actions whole (scored t column a) s) t.actions scores i a s inside had
      (subst (λ (b : Action). ShowsScore t.actions whole (scored t column b) s) itself shows)

  module _ (best z : ℤ) (most : z ≡ int_max best new) where
    pub still_reached : (b : Action) × Contains t.actions b × (best ≡ gained t.rest b.gains column)
        → (b : Action) × Contains t.actions b × (z ≡ gained t.rest b.gains column)
    still_reached had = reached_next t.rest column t.actions i a inside itself best new z gains most had

    pub still_best : ((k : ℕ) (b : Action) → k < i → get_or t.actions k b ≡ b → gained t.rest b.gains column ≤ℤ best)
        → (k : ℕ) (b : Action) → k < i + 1 → get_or t.actions k b ≡ b → gained t.rest b.gains column ≤ℤ z
    still_best had = bounds_next t.rest column t.actions i a inside itself best new z gains most had

-- the places so far, and the next one
one_more : (n : ℕ) → range_with_len 0 (n + 1) ≡ range_with_len 0 n ++ n ∷ []
one_more n = sym (map-id (range_with_len 0 (n + 1))) ∙ map-range_with_len_more (λ (k : ℕ). k) 0 n n (omega arith) ∙ ap (λ (l : List ℕ). l ++ n ∷ []) (map-id (range_with_len 0 n))

pub places_next : (scores : List Score) (i : ℕ) (s : Score) → s.action ≡ i → places scores ≡ range_with_len 0 i
    → places (scores ++ s ∷ []) ≡ range_with_len 0 (i + 1)
places_next scores i s is had =
    map-append (λ (s : Score). s.action) scores (s ∷ []) ∙ ap₂ (λ (l : List ℕ) (k : ℕ). l ++ k ∷ []) had is
    ∙ sym (one_more i)

-- all of them
module _ (t : TableTree) (column : List Entry) (whole i : ℕ) (past : length t.actions ≤ i) (z : ℤ) (scores : List Score) (worth : Frac) where
  pub scores_shown : whole ≡ total column * t.over → IsFraction worth z whole
      → AllZip (λ a s. ShowsScore t.actions whole (scored t column a) s) (take i t.actions) scores → places scores ≡ range_with_len 0 i → i ≤ length t.actions
      → (a : Action) × Contains t.actions a × (z ≡ gained t.rest a.gains column)
      → ((k : ℕ) (a : Action) → k < i → get_or t.actions k a ≡ a → gained t.rest a.gains column ≤ℤ z)
      → IsShownBest (Table t) column (record { worth = worth; best = best.Scores scores })
  scores_shown same fraction shown placed within reached bound =
      let all : AllZip (λ a s. ShowsScore t.actions whole (scored t column a) s) t.actions scores =
      subst (λ (l : List Action). AllZip (λ a s. ShowsScore t.actions whole (scored t column a) s) l scores) (take_all i t.actions past) shown in
      let named : AllZip (ShowsScore t.actions whole) (map (scored t column) t.actions) scores =
      zip_mapped (ShowsScore t.actions whole) (scored t column) t.actions scores all in
      let most : Best t.rest t.actions column z = record { reached = reached; best = λ a (k, inside, is). bound k a (omega (arith, inside, past)) is } in
      record {
        value = z;
        worth = best_is t column z most;
        fraction = subst (λ (n : ℕ). IsFraction worth z n) same fraction;
        actions = Scores (map (scored t column) t.actions);
        best = refl;
        shown = (
          subst (λ (n : ℕ). AllZip (ShowsScore t.actions n) (map (scored t column) t.actions) scores) same named,
          placed ∙ ap (range_with_len 0) (let all : i ≡ length t.actions = omega (arith, past, within) in all ∙ sym (length-map t.actions (scored t column))),
        );
      }
