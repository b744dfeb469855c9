-- Lists of states that go on one after the other.
use Rattle.std.proofs.Common.{◌≡◌, ℕ, zero, suc, ◌+◌, ◌<◌, ◌^◌, List, [], ◌∷◌, ◌++◌, All, length, map, slice_get, Some, refl, sym, ap, subst, ◌∙◌, arith}
use Rattle.std.specs.Prelude.{flat_map}
use Rattle.std.proofs.lemmas.List.{append-nil, append_assoc, map-append}
use Rattle.std.proofs.lemmas.List.Concat.{flat_map-append}
use Rattle.std.proofs.lemmas.List.Elements.{All-append, All-cons, All-head, All-nil, All-rest, All-same, All-tail}
use Rattle.kf_value.specs.declared.shape.Shape.{Shape}
use Rattle.kf_value.specs.declared.value.Value.{Value}
use Rattle.kf_value.specs.Shapes.{shape_size, shape_types}
use Rattle.kf_value.specs.Values.{ValueTree, truth}
use Rattle.kf_value.specs.Views.{value_tree}
use Rattle.kf_core.specs.Sts.{StTree, sts}
use Rattle.kf_core.specs.Checked.{IsSound, AreSound, more}
use Rattle.kf_eval.specs.Kinds.{shape_kinds}
use Rattle.kf_traces.specs.Traced.{Part, Traced, behind, alone, traced, all_traced}
use Rattle.kf_traces.specs.Laws.{sum_of}
use Rattle.kf_traces.specs.Views.{Fits}
use Rattle.kf_traces.specs.Visits.{last_true}

-- stores of a shape of so many
abbrev pub InSize : ℕ → Traced → Type 0
InSize size s = Fits size s.stores

-- ---- lists of lists

-- two walks one after the other are one
module _ {X Y Z : Type 0} (f : X → List Y) (g : Y → List Z) where
  pub flat_flat : (xs : List X) → flat_map g (flat_map f xs) ≡ flat_map (λ x. flat_map g (f x)) xs
  flat_flat [] = refl
  flat_flat (x ∷ xs) = flat_map-append g (f x) (flat_map f xs) ∙ ap (λ ys. flat_map g (f x) ++ ys) (flat_flat xs)

-- a walk from what each thing becomes
module _ {X Y Z : Type 0} (f : X → Y) (g : Y → List Z) where
  pub flat_mapped : (xs : List X) → flat_map g (map f xs) ≡ flat_map (λ x. g (f x)) xs
  flat_mapped [] = refl
  flat_mapped (x ∷ xs) = ap (λ ys. g (f x) ++ ys) (flat_mapped xs)

-- equal steps make equal walks
module _ {X Y : Type 0} (f g : X → List Y) (same : (x : X) → f x ≡ g x) where
  pub flat_same : (xs : List X) → flat_map f xs ≡ flat_map g xs
  flat_same [] = refl
  flat_same (x ∷ xs) = λ i. same x i ++ flat_same xs i

-- what stays alone stays
pub flat_alone : {X : Type 0} (xs : List X) → flat_map (λ x. x ∷ []) xs ≡ xs
flat_alone [] = refl
flat_alone (x ∷ xs) = ap (λ ys. x ∷ ys) (flat_alone xs)

-- what is taken from the end of a list, and what is put there
pub mapped_joined : {X Y : Type 0} (f : X → Y) (after done made : List X) → after ≡ done ++ made → map f after ≡ map f done ++ map f made
mapped_joined f after done made put = ap (map f) put ∙ map-append f done made

-- what is the last of a list is the last of what the list becomes
pub mapped_last : {X Y : Type 0} (f : X → Y) (all others : List X) (x y : X) → all ≡ others ++ x ∷ [] → x ≡ y → map f all ≡ map f others ++ f y ∷ []
mapped_last f all others x y is same = mapped_joined f all others (x ∷ []) is ∙ ap (λ z. map f others ++ f z ∷ []) same

-- ---- a loop over things that each go on in several ways

module _ {X Y : Type 0} (next : X → List Y) (P : X → Type 0) (Q : Y → Type 0) where
  -- what is done and what is left are the whole
  pub record GoesOn (whole done : List Y) (left : List X) : Type 0 where
    pub same : done ++ flat_map next left ≡ whole
    pub holds : All Q done
    pub will : All P left

  -- at the start nothing is done
  pub goes_start : (done : List Y) (all left : List X) → done ≡ [] → left ≡ all → All P all → GoesOn (flat_map next all) done left
  goes_start done all left empty is will = record {
    same = λ i. empty i ++ flat_map next (is i);
    holds = All-same Q done [] empty (All-nil Q);
    will = All-same P left all is will;
  }

  module _ (whole done : List Y) (left : List X) (x : X) (rest : List X) (is : left ≡ x ∷ rest) (before : GoesOn whole done left) where
    -- the next one is as it should be
    pub goes_next : P x
    goes_next = All-head P x rest (subst (All P) is before.will)

    -- what the next one becomes goes behind what is done
    pub goes_step : (made after : List Y) → made ≡ next x → after ≡ done ++ made → All Q made → GoesOn whole after rest
    goes_step made after is_next put all = record {
      same =
          ap (λ ys. ys ++ flat_map next rest) (put ∙ ap (λ ys. done ++ ys) is_next)
          ∙ (append_assoc done (next x) (flat_map next rest) ∙ (ap (λ xs. done ++ flat_map next xs) (sym is) ∙ before.same));
      holds = All-same Q after (done ++ made) put (All-append Q done made before.holds all);
      will = All-rest P x rest left is before.will;
    }

  -- at the end all is done
  pub goes_end : (whole done : List Y) (left : List X) → left ≡ [] → GoesOn whole done left → done ≡ whole
  goes_end whole done left none before = sym (append-nil done) ∙ (ap (λ xs. done ++ flat_map next xs) (sym none) ∙ before.same)

-- ---- a loop over things that each become one

module _ {X Y : Type 0} (f : X → Y) where
  -- at the start nothing is done
  pub ones_start : (done : List Y) (left all : List X) → done ≡ [] → left ≡ all → done ++ map f left ≡ map f all
  ones_start done left all empty is = λ i. empty i ++ map f (is i)

  -- what the next one becomes goes behind what is done
  pub ones_step : (whole done after : List Y) (left rest : List X) (x : X) → left ≡ x ∷ rest → after ≡ done ++ f x ∷ [] → done ++ map f left ≡ whole → after ++ map f rest ≡ whole
  ones_step whole done after left rest x is put before =
      ap (λ ys. ys ++ map f rest) put ∙ (append_assoc done (f x ∷ []) (map f rest) ∙ (ap (λ xs. done ++ map f xs) (sym is) ∙ before))

  -- at the end all is done
  pub ones_end : (whole done : List Y) (left : List X) → left ≡ [] → done ++ map f left ≡ whole → done ≡ whole
  ones_end whole done left none before = sym (append-nil done) ∙ (ap (λ xs. done ++ map f xs) (sym none) ∙ before)

-- no thing is left where their number is 0
pub none_left : {X : Type 0} (xs : List X) → length xs ≡ 0 → xs ≡ []
none_left [] empty = refl
none_left (x ∷ xs) empty = absurd (omega arith)

-- ---- the last value

-- the same, by recursion on the place
last_by : (xs : List Value) (k : ℕ) (x : Value) → suc k ≡ length xs → slice_get xs k ≡ Some x → last_true (map value_tree xs) ≡ truth (value_tree x)
last_by [] k x long at = absurd (omega arith)
last_by (y ∷ []) zero x long at = let same : y ≡ x = (cc) in ap (λ v. truth (value_tree v)) same
last_by (y ∷ []) (suc k) x long at = absurd (omega arith)
last_by (y ∷ z ∷ zs) zero x long at = absurd (omega arith)
last_by (y ∷ z ∷ zs) (suc k) x long at = last_by (z ∷ zs) k x (omega arith) at

-- whether the last value is true, by its place
pub last_at : (xs : List Value) (k : ℕ) (x : Value) → k + 1 ≡ length xs → slice_get xs k ≡ Some x → last_true (map value_tree xs) ≡ truth (value_tree x)
last_at xs k x long at = last_by xs k x (omega arith) at

-- the value behind a trace is its last
pub last_behind : (v : ValueTree) (t : List ValueTree) → last_true (t ++ v ∷ []) ≡ truth v
last_behind v [] = refl
last_behind v (w ∷ []) = refl
last_behind v (w ∷ u ∷ us) = last_behind v (u ∷ us)

-- ---- statements one after the other

module _ (shape : Shape) (turns : ℕ) where
  -- the ends of statements
  abbrev pub ends_of : List StTree → Traced → List Traced
  ends_of ss s = all_traced (shape_types shape) turns (sts ss) s

  -- stores of this shape
  abbrev Fit : Traced → Type 0
  Fit s = InSize (shape_size shape) s

  -- the statements that are left lead from these states to all ends
  pub record BlockOn (whole : List Traced) (left : List StTree) (states : List Traced) : Type 0 where
    pub same : flat_map (ends_of left) states ≡ whole
    pub sound : AreSound (shape_kinds shape) left
    pub fits : All Fit states

  -- at the start there is one state
  pub block_start : (ss : List StTree) (s : Traced) (states : List Traced) → states ≡ alone s → AreSound (shape_kinds shape) ss → Fit s → BlockOn (ends_of ss s) ss states
  block_start ss s states is sound fit = record {
    same = ap (flat_map (ends_of ss)) is ∙ append-nil (ends_of ss s);
    sound = sound;
    fits = All-same Fit states (s ∷ []) is (All-cons Fit s [] fit (All-nil Fit));
  }

  -- sound statements are a sound one and sound others
  sound_parts : {x : StTree} {xs : List StTree} → AreSound (shape_kinds shape) (x ∷ xs) → IsSound (shape_kinds shape) x × AreSound (shape_kinds shape) xs
  sound_parts (more h hs) = (h, hs)

  module _ (whole : List Traced) (x : StTree) (left : List StTree) (states : List Traced) (before : BlockOn whole (x ∷ left) states) where
    -- the next statement is sound
    pub block_sound : IsSound (shape_kinds shape) x
    block_sound = (sound_parts before.sound).0

    -- each state goes through the next statement
    pub block_step : (after : List Traced) → after ≡ flat_map (traced (shape_types shape) turns x) states → All Fit after → BlockOn whole left after
    block_step after made fits = record {
      same = ap (flat_map (ends_of left)) made ∙ (flat_flat (traced (shape_types shape) turns x) (ends_of left) states ∙ before.same);
      sound = (sound_parts before.sound).1;
      fits = fits;
    }

  -- at the end the states are the ends
  pub block_end : (whole : List Traced) (left : List StTree) (states : List Traced) → left ≡ [] → BlockOn whole left states → states ≡ whole
  block_end whole left states none before = sym (flat_alone states) ∙ (ap (λ ss. flat_map (ends_of ss) states) (sym none) ∙ before.same)

-- ---- what fits

-- the states that are leaked fit as their parts do
pub leaked_fit : (size : ℕ) (t : List ValueTree) (ps : List Part) → All (λ p. All (λ e. e.0 < size) p.stores) ps → All (λ p. sum_of p.stores < 2 ^ 127) ps → All (InSize size) (map (behind t) ps)
leaked_fit size t [] below narrow = All-nil (InSize size)
leaked_fit size t (p ∷ ps) below narrow =
    let low = λ (p : Part). All (λ (e : ℕ × ℕ). e.0 < size) p.stores in
    let small = λ (p : Part). sum_of p.stores < 2 ^ 127 in
    All-cons (InSize size) (behind t p) (map (behind t) ps) (record { below = All-head low p ps below; narrow = All-head small p ps narrow })
    (leaked_fit size t ps (All-tail low p ps below) (All-tail small p ps narrow))

-- ---- the last part

-- the last part's state behind those of the others
pub behind_last : {A B : Type 0} (f : A → B) (g : B → Traced) (all others : List A) (p : A) (done after : List Traced) (u : Traced) → all ≡ others ++ p ∷ [] → done ++ [] ≡ map g (map f others) → after ≡ done ++ u ∷ [] → u ≡ g (f p) → after ≡ map g (map f all)
behind_last f g all others p done after u is made put last =
    put
    ∙ ((λ i. (sym (append-nil done) ∙ made) i ++ last i ∷ [])
    ∙ (sym (map-append g (map f others) (f p ∷ [])) ∙ ap (map g) (sym (map-append f others (p ∷ [])) ∙ ap (map f) (sym is))))
