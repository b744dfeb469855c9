use Rattle.std.proofs.Common.{ap, codes}
use Rattle.kf_ast.specs.Views.{source_tree}
use Rattle.kf_load.specs.Texts.{type_fault}
use Rattle.kf_load.specs.Refusals.{fault}
use Rattle.kf_load.proofs.Faults.{bad_program}
use Rattle.kf_load.proofs.text.program.Goals as goal

pub returns-in-Err-NoVariable : goal.returns-in-Err-NoVariable
returns-in-Err-NoVariable c =
    rw c.bad_text.ensures
    (record { typed = tt; checked = tt; read = tt; answer = bad_program c.args.name.now c.args.bytes.now (source_tree c.args.source.now) c.in-Err-NoVariable.field-0 (fault (codes "NoVariable") c.in-Err-NoVariable.at) (ap type_fault c.in-Err-NoVariable.field-0-is) c.in-Err-NoVariable.ensures.broken })

pub returns-in-Err-Twice : goal.returns-in-Err-Twice
returns-in-Err-Twice c =
    rw c.bad_text-in-Err-Twice.ensures
    (record { typed = tt; checked = tt; read = tt; answer = bad_program c.args.name.now c.args.bytes.now (source_tree c.args.source.now) c.in-Err-Twice.field-0 (fault (codes "Twice") c.in-Err-Twice.at) (ap type_fault c.in-Err-Twice.field-0-is) c.in-Err-Twice.ensures.broken })

pub returns-in-Err-Unknown : goal.returns-in-Err-Unknown
returns-in-Err-Unknown c =
    rw c.bad_text-in-Err-Unknown.ensures
    (record { typed = tt; checked = tt; read = tt; answer = bad_program c.args.name.now c.args.bytes.now (source_tree c.args.source.now) c.in-Err-Unknown.field-0 (fault (codes "Unknown") c.in-Err-Unknown.at) (ap type_fault c.in-Err-Unknown.field-0-is) c.in-Err-Unknown.ensures.broken })

pub returns-in-Err-Clash : goal.returns-in-Err-Clash
returns-in-Err-Clash c =
    rw c.bad_text-in-Err-Clash.ensures
    (record { typed = tt; checked = tt; read = tt; answer = bad_program c.args.name.now c.args.bytes.now (source_tree c.args.source.now) c.in-Err-Clash.field-0 (fault (codes "Clash") c.in-Err-Clash.at) (ap type_fault c.in-Err-Clash.field-0-is) c.in-Err-Clash.ensures.broken })

pub returns-in-Err-BadRange : goal.returns-in-Err-BadRange
returns-in-Err-BadRange c =
    rw c.bad_text-in-Err-BadRange.ensures
    (record { typed = tt; checked = tt; read = tt; answer = bad_program c.args.name.now c.args.bytes.now (source_tree c.args.source.now) c.in-Err-BadRange.field-0 (fault (codes "BadRange") c.in-Err-BadRange.at) (ap type_fault c.in-Err-BadRange.field-0-is) c.in-Err-BadRange.ensures.broken })

pub returns-in-Err-TypeTooLarge : goal.returns-in-Err-TypeTooLarge
returns-in-Err-TypeTooLarge c =
    rw c.bad_text-in-Err-TypeTooLarge.ensures
    (record { typed = tt; checked = tt; read = tt; answer = bad_program c.args.name.now c.args.bytes.now (source_tree c.args.source.now) c.in-Err-TypeTooLarge.field-0 (fault (codes "TypeTooLarge") c.in-Err-TypeTooLarge.at) (ap type_fault c.in-Err-TypeTooLarge.field-0-is) c.in-Err-TypeTooLarge.ensures.broken })

pub returns-in-Err-TooManyVariables : goal.returns-in-Err-TooManyVariables
returns-in-Err-TooManyVariables c =
    rw c.bad_text-in-Err-TooManyVariables.ensures
    (record { typed = tt; checked = tt; read = tt; answer = bad_program c.args.name.now c.args.bytes.now (source_tree c.args.source.now) c.in-Err-TooManyVariables.field-0 (fault (codes "TooManyVariables") c.in-Err-TooManyVariables.at) (ap type_fault c.in-Err-TooManyVariables.field-0-is) c.in-Err-TooManyVariables.ensures.broken })

pub returns-in-Err-StoreTooWide : goal.returns-in-Err-StoreTooWide
returns-in-Err-StoreTooWide c =
    rw c.bad_text-in-Err-StoreTooWide.ensures
    (record { typed = tt; checked = tt; read = tt; answer = bad_program c.args.name.now c.args.bytes.now (source_tree c.args.source.now) c.in-Err-StoreTooWide.field-0 (fault (codes "StoreTooWide") c.in-Err-StoreTooWide.at) (ap type_fault c.in-Err-StoreTooWide.field-0-is) c.in-Err-StoreTooWide.ensures.broken })

pub returns-in-Err-BadFlip : goal.returns-in-Err-BadFlip
returns-in-Err-BadFlip c =
    rw c.bad_text-in-Err-BadFlip.ensures
    (record { typed = tt; checked = tt; read = tt; answer = bad_program c.args.name.now c.args.bytes.now (source_tree c.args.source.now) c.in-Err-BadFlip.field-0 (fault (codes "BadFlip") c.in-Err-BadFlip.at) (ap type_fault c.in-Err-BadFlip.field-0-is) c.in-Err-BadFlip.ensures.broken })
