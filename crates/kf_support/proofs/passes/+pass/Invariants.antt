use Rattle.std.proofs.Common.{[], map, drop}
use Rattle.kf_core.specs.Views.{st_tree}
use Rattle.kf_support.proofs.Passing.{PassSoFar, LoopSoFar, leads, turns_left}
use Rattle.kf_support.proofs.passes.+pass.Given as goal

abbrev pub invariant-pass_all-loop-statement : goal.invariant-pass_all-loop-statement
invariant-pass_all-loop-statement l =
    PassSoFar l.shape l.turns (leads l.shape l.turns (map st_tree l.statements) l.initial.states.items) (map st_tree (drop l.statement-index l.statements)) l.states.items

abbrev pub invariant-pass_while-loop-turn : goal.invariant-pass_while-loop-turn
invariant-pass_while-loop-turn l =
    LoopSoFar l.shape l.turns l.test (map st_tree l.body) (turns_left l.shape l.turns l.test (map st_tree l.body) l.turns [] l.initial.states.items) l._turn l.gone.items l.states.items
