-- What has a kind has it where there are more variables, too; so the parts of a checked program are of their kinds over all its variables.
use Rattle.std.proofs.Common.{◌≡◌, ℕ, List, ◌++◌, length, map, take, drop, slice_get, Some, sym, ap, subst, ◌∙◌}
use Rattle.std.proofs.lemmas.List.{map-append, take-append-drop}
use Rattle.kf_value.specs.Types.{TypeTree}
use Rattle.kf_value.specs.Kinds.{KindTree, kind_of}
use Rattle.kf_value.proofs.Places.{slice_get-append_left}
use Rattle.kf_core.specs.Exs.{ExTree}
use Rattle.kf_core.specs.Dxs.{DxTree, DxCaseTree}
use Rattle.kf_core.specs.Sts.{StTree}
use Rattle.kf_core.specs.Programs.{ProgramTree}
use Rattle.kf_core.specs.Checked as kinded
use Rattle.kf_core.specs.Checked.{Kinded, EachKinded, AllKinded, CasesKinded, DistKinded, IsSound, AreSound, IsChecked}

module _ (ks more : List KindTree) where
  mutual
    pub wider_kinded : {x : ExTree} {k : KindTree} → Kinded ks x k → Kinded (ks ++ more) x k
    wider_kinded (kinded.truth b) = kinded.truth b
    wider_kinded (kinded.whole n) = kinded.whole n
    wider_kinded (kinded.slot i {k} at) = kinded.slot i (slice_get-append_left ks more i k at)
    wider_kinded (kinded.apply row r any is args) = kinded.apply row r any is (wider_each args)
    wider_kinded (kinded.tuple parts two) = kinded.tuple (wider_each parts) two
    wider_kinded (kinded.set members one) = kinded.set (wider_all members) one
    wider_kinded (kinded.part n js from at) = kinded.part n js (wider_kinded from) at

    pub wider_each : {xs : List ExTree} {js : List KindTree} → EachKinded ks xs js → EachKinded (ks ++ more) xs js
    wider_each kinded.none = kinded.none
    wider_each (kinded.more h hs) = kinded.more (wider_kinded h) (wider_each hs)

    pub wider_all : {xs : List ExTree} {k : KindTree} → AllKinded ks xs k → AllKinded (ks ++ more) xs k
    wider_all kinded.no_more = kinded.no_more
    wider_all (kinded.and_more h hs) = kinded.and_more (wider_kinded h) (wider_all hs)

  pub wider_cases : {cs : List DxCaseTree} {k : KindTree} → CasesKinded ks cs k → CasesKinded (ks ++ more) cs k
  wider_cases kinded.none = kinded.none
  wider_cases (kinded.more value weight cases) = kinded.more (wider_kinded value) (wider_kinded weight) (wider_cases cases)

  pub wider_dist : {d : DxTree} {k : KindTree} → DistKinded ks d k → DistKinded (ks ++ more) d k
  wider_dist (kinded.sure at h) = kinded.sure at (wider_kinded h)
  wider_dist (kinded.uniform_set at h) = kinded.uniform_set at (wider_kinded h)
  wider_dist (kinded.uniform_range at low high) = kinded.uniform_range at (wider_kinded low) (wider_kinded high)
  wider_dist (kinded.choose at cases one) = kinded.choose at (wider_cases cases) one
  wider_dist (kinded.flip at num den above below) = kinded.flip at num den above below

  mutual
    pub wider_sound : {s : StTree} → IsSound ks s → IsSound (ks ++ more) s
    wider_sound kinded.skip = kinded.skip
    wider_sound (kinded.assign slot {d} {k} at dist) = kinded.assign slot (slice_get-append_left ks more slot k at) (wider_dist dist)
    wider_sound (kinded.observe dist) = kinded.observe (wider_dist dist)
    wider_sound (kinded.if_else guard first second) = kinded.if_else (wider_dist guard) (wider_are first) (wider_are second)
    wider_sound (kinded.while guard body) = kinded.while (wider_dist guard) (wider_are body)

    pub wider_are : {ss : List StTree} → AreSound ks ss → AreSound (ks ++ more) ss
    wider_are kinded.none = kinded.none
    wider_are (kinded.more h hs) = kinded.more (wider_sound h) (wider_are hs)

-- ---- a checked program, over all its variables

-- the kinds of the first types, and those of the others
all_kinds : (ts : List TypeTree) (n : ℕ) → map kind_of (take n ts) ++ map kind_of (drop n ts) ≡ map kind_of ts
all_kinds ts n = sym (map-append kind_of (take n ts) (drop n ts)) ∙ ap (map kind_of) (take-append-drop n ts)

pub checked_decl : (p : ProgramTree) → IsChecked p → (i : ℕ) (d : DxTree) (t : TypeTree) → slice_get p.decls i ≡ Some d → slice_get p.types i ≡ Some t → DistKinded (map kind_of p.types) d (kind_of t)
checked_decl p checked i d t decl type =
    subst (λ ks. DistKinded ks d (kind_of t)) (all_kinds p.types i) (wider_dist (map kind_of (take i p.types)) (map kind_of (drop i p.types)) (checked.declared i d t decl type))

pub checked_body : (p : ProgramTree) → IsChecked p → AreSound (map kind_of p.types) p.body
checked_body p checked =
    let n = length p.decls in
    subst (λ ks. AreSound ks p.body) (all_kinds p.types n) (wider_are (map kind_of (take n p.types)) (map kind_of (drop n p.types)) checked.sound)
