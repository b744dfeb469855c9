-- For bodies: a result against the defined step.
use Rattle.std.specs.Prelude.{[], ◌++◌, Ok, Err, codes}
use Rattle.std.specs.Fmt.{decimal}
use Rattle.std.specs.declared.result.Result.{Result}
use Rattle.kf_hyper.specs.Views.{target_of}
use Rattle.kf_ast.specs.Sources.{SourceTree}
use Rattle.kf_load.specs.Steps as steps
use Rattle.kf_load.specs.Steps.{Step}
use Rattle.kf_load.specs.Stops as load
use Rattle.kf_load.specs.Texts.{Text}
use Rattle.kf_prior.specs.FullSources.{full_source}
use Rattle.kf_load.specs.declared.refusal.Refusal.TheVariants as load_refusal
use Rattle.kf_load.specs.declared.refusal.Stop as load_code
use Rattle.kf_load.specs.declared.refusal.Stop.TheVariants as load_stop
use Rattle.kf_cert.specs.Shapes.{IsWritable}
use Rattle.kf_refine.specs.Verdicts.{IsVerdict, Proves}
use Rattle.kf_refine.specs.Views.{hyper_tree, verdict_tree}
use Rattle.kf_refine.specs.declared.verdict.Verdict.{Verdict}
use Rattle.kf_top.specs.Answer.{bad_file, cert_word, other_target, table_word, wide_channel}
use Rattle.kf_top.specs.declared.refusal.Refusal.{Refusal}
use Rattle.kf_top.specs.declared.refusal.Refusal.TheVariants as refusal
use Rattle.kf_top.specs.declared.refusal.Stop.{Stop}
use Rattle.kf_top.specs.declared.refusal.Stop.TheVariants as stop
use Rattle.kf_top.specs.declared.verdict.Hypers.{Hypers}
use Rattle.kf_top.specs.Steps.{wide_cert, most_pivots}

abbrev pub refused : Refusal → steps.Refused
refused (refusal.Load r) = load.refused r
refused refusal.NotInitial = steps.refusal 10 [] (codes "target is not initial")
refused (refusal.BadTable name error) = bad_file name.now (table_word error)
refused refusal.WideGain = steps.refusal 7 [] (codes "gain passes 2^127 - 1")
refused refusal.OtherTarget = other_target
refused (refusal.ManyCells cells) = steps.refusal 8 [] (codes "tableau has " ++ (decimal cells ++ codes " cells"))
refused (refusal.WideTableau pivots) = steps.refusal 7 [] (codes "tableau passes 2^62 after " ++ (decimal pivots ++ codes " pivots"))
refused refusal.ManyPivots = steps.refusal 8 [] (codes "more than 20000 pivots")
refused (refusal.BadCert name error) = bad_file name.now (cert_word error)
refused refusal.WideCert = wide_cert
refused refusal.OtherRows = steps.refusal 10 [] (codes "rows differ")
refused refusal.NoFit = steps.refusal 10 [] (codes "channels do not fit")
refused (refusal.ManyChannelCells cells) = steps.refusal 8 [] (codes "channel has " ++ (decimal cells ++ codes " cells"))
refused refusal.WideChannel = wide_channel
refused (refusal.ManyStores name count) = steps.refusal 8 name.now (codes ": " ++ (decimal count ++ codes " stores"))

-- why there is no program, as why there is no answer
abbrev pub lifted : load_code.Stop → Stop
lifted (load_stop.Refused r) = stop.Refused (refusal.Load r)
lifted load_stop.Mem = stop.Mem

-- the step may stop so; want of memory isn't in it
abbrev pub Stopped : {B : Type 0} → Stop → Step B → Type 0
Stopped (stop.Refused r) step = step (Err (refused r))
Stopped stop.Mem step = Unit {0}

-- the result, seen as the definition's, is one that the step may have
abbrev pub Answers : {A B : Type 0} → (A → B) → Result A Stop → Step B → Type 0
Answers seen (Ok x) step = step (Ok (seen x))
Answers seen (Err s) step = Stopped s step

-- a stop of what reads no file
abbrev pub IsOwn : Stop → Type 0
IsOwn (stop.Refused (refusal.Load (load_refusal.ReadFailed name))) = ⊥
IsOwn s = Unit {0}

-- it is the verdict on these hypers, and proves what it says
pub record IsVerdictOn (hypers : Hypers) (v : Verdict) : Type 0 where
  pub is : IsVerdict (hyper_tree hypers.a) (hyper_tree hypers.b) most_pivots (Ok (verdict_tree v))
  pub proves : Proves (hyper_tree hypers.a) (hyper_tree hypers.b) (verdict_tree v)
  pub writable : IsWritable (target_of hypers.a) (verdict_tree v)

-- the full source of a text
abbrev pub full_tree : Text → SourceTree
full_tree t = full_source t.program.types t.source
