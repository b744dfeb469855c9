-- What each constructor of an expression shows.
use Rattle.std.proofs.Common.{◌≡◌, ℕ, map, rules, Box, Global}
use Rattle.kf_value.specs.Views.{value_tree}
use Rattle.kf_value.specs.declared.value.Value.{Value}
use Rattle.kf_core.specs.Exs.{Const, Slot, Apply, Tuple, SetOf, Part}
use Rattle.kf_core.specs.Views.{ex_tree, ex_items}
use Rattle.kf_core.specs.declared.ex.Ex.{Ex, the_lemmas}
use Rattle.kf_core.specs.declared.ex.Ex.TheVariants as ex
use Rattle.kf_core.specs.declared.ex.ExList.{ExList}
use Rattle.kf_core.specs.Each.{exs}

pub ex_tree-Const : (v : Value) → ex_tree (ex.Const v) ≡ Const (value_tree v)
ex_tree-Const v = search (rules, the_lemmas)

pub ex_tree-Slot : (i : ℕ) → ex_tree (ex.Slot i) ≡ Slot i
ex_tree-Slot i = search (rules, the_lemmas)

pub ex_tree-Apply : (row : ℕ) (args : ExList) → ex_tree (ex.Apply row args) ≡ Apply row (exs (map ex_tree (ex_items args)))
ex_tree-Apply row args = search (rules, the_lemmas)

pub ex_tree-Tuple : (parts : ExList) → ex_tree (ex.Tuple parts) ≡ Tuple (exs (map ex_tree (ex_items parts)))
ex_tree-Tuple parts = search (rules, the_lemmas)

pub ex_tree-SetOf : (members : ExList) → ex_tree (ex.SetOf members) ≡ SetOf (exs (map ex_tree (ex_items members)))
ex_tree-SetOf members = search (rules, the_lemmas)

pub ex_tree-Part : (of : Box Ex Global) (k : ℕ) → ex_tree (ex.Part of k) ≡ Part (ex_tree of.value) k
ex_tree-Part of k = search (rules, the_lemmas)

pub ruleset constructors = (ex_tree-Const, ex_tree-Slot, ex_tree-Apply, ex_tree-Tuple, ex_tree-SetOf, ex_tree-Part)
