use Rattle.std.proofs.Common.{◌≡◌, ℕ, List, Result, None, Some, Ok, Err, ◌≢◌}
use Rattle.std.specs.Prelude.{IfOk, IfErr}
use Rattle.serde_json.specs.Data.{Data}
use Rattle.serde_json.specs.View.{view}
use Rattle.kf_value.specs.Targets.{Item}
use Rattle.kf_value.specs.Views.{items_of}
use Rattle.kf_json.specs.Json.{json_of}
use Rattle.kf_gain.specs.declared.error.TableError.{TableError}
use Rattle.kf_gain.specs.declared.error.TableError.TheVariants as broken
use Rattle.kf_gain.specs.declared.table.GainTable.{GainTable}
use Rattle.kf_gain.specs.Tables.{IsTable, IsTableOf}
use Rattle.kf_gain.specs.Forms.{fault_in}
use Rattle.kf_gain.specs.Views.{table_tree}
use Rattle.kf_gain.proofs.Judging.{answer_table, answer_fault}
use Rattle.kf_gain.proofs.reader.read_table.Goals as goal

module _ (items : List Item) (bytes : List ℕ) (d : Data) (is : json_of bytes ≡ Some d) where
  table_read : (r : Result GainTable TableError) → IfOk r (λ _. fault_in items d ≡ None) → IfOk r (λ t. IsTableOf items d (table_tree t)) → IfOk r (λ t. IsTable items bytes (Ok (table_tree t)))
  table_read (Ok t) none table = answer_table items bytes d (table_tree t) is none table
  table_read (Err e) none table = tt

  fault_read : (r : Result GainTable TableError) → IfErr r (λ e. e ≢ broken.Mem → fault_in items d ≡ Some e) → IfErr r (λ e. e ≢ broken.Mem → IsTable items bytes (Err e))
  fault_read (Ok t) fault = tt
  fault_read (Err e) fault = λ other. answer_fault items bytes d e is (fault other)

pub returns-clause-is : goal.returns-clause-is
returns-clause-is c =
    table_read (items_of c.args.target.now) c.args.bytes.now (view c.in_ok-value.value) c.in_ok-value.ensures.ok c.table_in.result c.table_in.ensures.fault c.table_in.ensures.is

pub returns-clause-err : goal.returns-clause-err
returns-clause-err c =
    fault_read (items_of c.args.target.now) c.args.bytes.now (view c.in_ok-value.value) c.in_ok-value.ensures.ok c.table_in.result c.table_in.ensures.err
