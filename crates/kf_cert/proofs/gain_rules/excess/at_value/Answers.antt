use Rattle.std.proofs.Common.{rules, refl, ◌-◌, List, drop, take, length}
use borrow.Author.Tests.{tests}
use lib.Dec.{ltb, leb}
use Rattle.std.proofs.lemmas.List.{take_rest}
use Rattle.std.proofs.lemmas.List.Sorted.{IsPartitionPoint-from_clause, IsPartitionedBy-leb, IsPartitionedBy-ltb, IsNonDecreasingBy-drop, IsNonDecreasingBy-take}
use Rattle.kf_cert.specs.declared.gain_rules.excess.Excess.{Excess}
use Rattle.kf_cert.proofs.OneKey.{key_sums}
use Rattle.kf_cert.proofs.gain_rules.excess.at_value.Goals as goal

pub returns-clause-sums : goal.returns-clause-sums
returns-clause-sums c =
    let key = λ (e : Excess). e.value in
    let all : List Excess = c.args.excesses.now in
    let value = c.args.value in
    let start = c.partition_point-start.result in
    let behind : List Excess = take (length all - start) (drop start all) in
    let first =
    IsPartitionPoint-from_clause (λ (e : Excess). ltb e.value value) all start c.partition_point-start.ensures.partitioned
    (IsPartitionedBy-ltb key all value c.requires) (λ a r q k. search (rules, tests)) in
    let second =
    IsPartitionPoint-from_clause (λ (e : Excess). leb e.value value) behind c.partition_point-end.result c.partition_point-end.ensures.partitioned
    (IsPartitionedBy-leb key behind value
    (IsNonDecreasingBy-take key (length all - start) (drop start all) (IsNonDecreasingBy-drop key start all c.requires)))
    (λ a r q k. search (rules, tests)) in
    key_sums key value all behind (take c.partition_point-end.result behind) start c.partition_point-end.result first (take_rest all start) second refl
