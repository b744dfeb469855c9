use Rattle.std.proofs.Common.{rules, refl, ◌-◌, List, drop, take, length}
use borrow.Author.Tests.{tests}
use lib.Dec.{ltb, leb}
use Rattle.std.proofs.lemmas.List.{take_rest}
use Rattle.std.proofs.lemmas.List.Sorted.{IsPartitionPoint-from_clause, IsPartitionedBy-leb, IsPartitionedBy-ltb, IsNonDecreasingBy-drop, IsNonDecreasingBy-take}
use Rattle.kf_cert.specs.declared.matrix_rules.shares.Share.{Share}
use Rattle.kf_cert.proofs.OneKey.{key_sums}
use Rattle.kf_cert.proofs.matrix_rules.shares.in_column.Goals as goal

pub returns-clause-sums : goal.returns-clause-sums
returns-clause-sums c =
    let shares : List Share = c.args.shares.now in
    let column = c.args.column in
    let start = c.partition_point-start.result in
    let behind : List Share = take (length shares - start) (drop start shares) in
    let first =
    IsPartitionPoint-from_clause (λ (s : Share). ltb s.column column) shares start c.partition_point-start.ensures.partitioned
    (IsPartitionedBy-ltb (λ (s : Share). s.column) shares column c.requires) (λ a r q k. search (rules, tests)) in
    let second =
    IsPartitionPoint-from_clause (λ (s : Share). leb s.column column) behind c.partition_point-end.result c.partition_point-end.ensures.partitioned
    (IsPartitionedBy-leb (λ (s : Share). s.column) behind column
    (IsNonDecreasingBy-take (λ (s : Share). s.column) (length shares - start) (drop start shares) (IsNonDecreasingBy-drop (λ (s : Share). s.column) start shares c.requires)))
    (λ a r q k. search (rules, tests)) in
    key_sums (λ (s : Share). s.column) column shares behind (take c.partition_point-end.result behind) start c.partition_point-end.result first (take_rest shares start) second refl
