-- The attacks of inners, one after the other.
use Rattle.std.proofs.Common.{ℕ, ◌+◌, ◌*◌, ◌<◌, List, [], ◌∷◌, ◌++◌, refl, length, take, get_or}
use Rattle.std.proofs.lemmas.Slice.Zip.{all_zipped_more}
use Rattle.kf_column.specs.Columns.{total}
use Rattle.kf_column.specs.Hypers.{Inner}
use Rattle.kf_gain.specs.Gains.{GainOf, TableTree, over_of}
use Rattle.kf_attack.specs.declared.attack.Attack.{Attack}
use Rattle.kf_attack.specs.Attacks.{AttackTree, IsAttack}
use Rattle.kf_attack.specs.Inners.{IsShownBest}
use Rattle.kf_attack.specs.Views.{actions_of, ShowsAttack, ShowAttacks, AreAttacks}
use Rattle.kf_attack.proofs.Zips.{zip_next}

-- attacks of these inners, as they are shown
pub record Attacked (g : GainOf TableTree) (inners : List Inner) (shown : List Attack) : Type 0 where
  pub trees : List AttackTree
  pub are : AreAttacks g inners trees
  pub show : ShowAttacks g trees shown

module _ (g : GainOf TableTree) (inners : List Inner) (i : ℕ) (d : Inner) (inside : i < length inners) (shown : List Attack)
    (had : Attacked g (take i inners) shown) (a : Attack) (is : IsShownBest g (get_or inners i d).entries a) where
  tree : AttackTree
  tree = record { worth = is.value; whole = total (get_or inners i d).entries * over_of g; best = is.actions }

  pub attacked_next : Attacked g (take (i + 1) inners) (shown ++ a ∷ [])
  unfolding tree
  attacked_next =
      let mine : IsAttack g (get_or inners i d) tree = record { worth = is.worth; whole = refl; best = is.best } in
      let seen : ShowsAttack (actions_of g) tree a = record { worth = is.fraction; best = is.shown } in
      record {
        trees = had.trees ++ tree ∷ [];
        are = zip_next (IsAttack g) inners had.trees i d tree inside had.are mine;
        show = all_zipped_more (ShowsAttack (actions_of g)) had.trees shown tree a had.show seen;
      }
