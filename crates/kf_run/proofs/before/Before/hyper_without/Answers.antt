use Rattle.std.proofs.Common.{◌≡◌, ◌∷◌, ◌<◌, ℕ, List, length, sym, subst, ◌∙◌}
use Rattle.kf_hyper.specs.Views.{inners_of}
use Rattle.kf_column.specs.declared.entry.Entry.{Entry}
use Rattle.kf_core.specs.declared.program.Program.{Program}
use Rattle.kf_core.specs.Rows.{IsHyperOf}
use Rattle.kf_core.specs.Views.{program_tree}
use Rattle.kf_support.specs.Cleared.{program_of, turns_of, whole_scale}
use Rattle.kf_push.specs.Meanings.{IsMeaning}
use Rattle.kf_silent.specs.Silent.{silent_joint}
use Rattle.kf_silent.specs.Paths.{only}
use Rattle.kf_run.specs.Before.{cleared_before}
use Rattle.kf_run.specs.Behind.{Behind}
use Rattle.kf_run.proofs.Meant.{is_meaning}
use Rattle.kf_run.proofs.before.Before.hyper_without.Goals as goal

-- a program, how many turns a loop may have, and a scale
abbrev Had : Type 0
Had = Program × (ℕ × ℕ)

pub hyper_where-requires-clause-meaning : goal.hyper_where-requires-clause-meaning
hyper_where-requires-clause-meaning c =
    let cleared = cleared_before c.args.self.now in
    let had : ◌≡◌ {A = Had} (program_of cleared, (turns_of cleared, whole_scale cleared)) (c.program-program.result.now, (c.turns.result, c.args.self.now.columns.scale)) =
    λ i. (sym c.program-program.ensures i, (sym c.turns.ensures i, sym c.requires.before.behind.scale i)) in
    subst (λ (h : Had). IsMeaning (record { program = program_tree h.0; turns = h.1.0; scale = h.1.1 })) had (is_meaning cleared)

pub hyper_where-requires-clause-behind : goal.hyper_where-requires-clause-behind
hyper_where-requires-clause-behind c =
    let cleared = cleared_before c.args.self.now in
    let had : ◌≡◌ {A = Had} (program_of cleared, (turns_of cleared, whole_scale cleared)) (c.program-program.result.now, (c.turns.result, c.args.self.now.columns.scale)) =
    λ i. (sym c.program-program.ensures i, (sym c.turns.ensures i, sym c.requires.before.behind.scale i)) in
    subst (λ (h : Had). (column : List Entry) × Behind (record { program = program_tree h.0; turns = h.1.0; scale = h.1.1 }) c.args.self.now.at column
    c.args.self.now.columns) had (c.requires.before.column, c.requires.before.behind)

pub hyper_where-requires-clause-within : goal.hyper_where-requires-clause-within
hyper_where-requires-clause-within c =
    subst (λ (p : Program). c.args.self.now.at < length (program_tree p).body) (sym c.program-program.ensures) c.requires.within

pub returns-clause-hyper : goal.returns-clause-hyper
returns-clause-hyper c =
    let cleared = cleared_before c.args.self.now in
    let had : ◌≡◌ {A = Program × ℕ} (c.program-program.result.now, c.turns.result) (program_of cleared, turns_of cleared) =
    λ i. (c.program-program.ensures i, c.turns.ensures i) in
    subst (λ (h : Program × ℕ). IsHyperOf (silent_joint (only (c.args.self.now.at ∷ c.args.path.now)) h.1 (program_tree h.0)) (inners_of c.in_ok-hyper.hyper))
    had c.in_ok-hyper.ensures.hyper

pub returns-clause-scale : goal.returns-clause-scale
returns-clause-scale c = c.in_ok-hyper.ensures.scale ∙ c.requires.before.behind.scale
