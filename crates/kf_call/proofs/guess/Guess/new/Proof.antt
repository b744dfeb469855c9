-- `new` makes a struct without data, whose ghost field is what the caller names.
use Rattle.std.proofs.Common.{[], ◌∷◌, refl}
use seplogic.Ra.Ura.{Ura}
use mir.Val.{Val}
use base.Logic.{SProp, ent}
use prog.Memory.{Memory}
use prog.Routine.{Routine}
use prog.Wp.{Calls, Loops, WpFn, Tables}
use contract.Monad.{Fun}
use contract.Running.{tables, tables_of}
use sound.WpLaws.{WpFn-mono}
use types.Logic.{Logic}
use types.Kit.{‵, raw, ◌⊛◌, ◌$◌, ◌∵◌, !, qed, move, keep, drop, split, fjoin, suffices, done}
use types.Part.{agg}
use types.Run.{enter, returns, no_more}
use types.ByLocal.{alloc_all, pass_all, free_all, look_at, sets}
use denote.RattleType.{owns}
use denote.Signature.{types_at}
use denote.Steps.{nothing}
use denote.Triple.Clauses.{Clauses, closing}
use denote.Triple.Entry.{alive}
use denote.Triple.Spec.{Meets, triple_of}
use denote.Triple.Table.{entered}
use denote.Triple.Walked.{says, Stays, walk_of, ends_at, walk_Meets}
use Rattle.kf_call.proofs.Walks.{no_data, owns_nothing}
use Rattle.kf_call.specs.contracts.guess.Guess as Guess
use Rattle.kf_call.specs.contracts.guess.Guess.new as f
use Rattle.kf_call.proofs.guess.Guess.new.Statement.{statement}
use Rattle.kf_call.proofs.guess.Guess.new.Code as code

abbrev stayed : Stays f.ended.signature.params f.ended.kept
stayed = tt

module _ {M : Type 1} {𝓤 : Ura M} (𝓛 : Logic 𝓤) (memory : Memory → SProp 𝓤) (returned : Routine → Fun 𝓤) where
  open 𝓛 use {H}

  abbrev c : Clauses 𝓤 f.ended
  c = f.clauses 𝓛 memory returned

  module _ (C : Calls 𝓤 H) (Λ : Loops 𝓤 H) (y : (walk_of 𝓛 f.ended stayed c).Ghost) where
    abbrev after : Val → SProp 𝓤
    after = (walk_of 𝓛 f.ended stayed c).post y

    -- the caller's bytes are y.1
    walked : ent 𝓤 ((walk_of 𝓛 f.ended stayed c).pre y) (WpFn 𝓤 H C Λ code.function ((walk_of 𝓛 f.ended stayed c).args y) after)
    walked =
        let made : (Guess.the_row).Denot = record { bytes = y.1 } in
        qed 𝓛 ((raw (alive 𝓛 f.ended.signature y.0.0 y.0.1) ⊛ ‵ (owns (types_at f.ended.signature.params y.0.0) y.0.3 y.0.4))
        ∷ raw ((c y.0.0 y.0.3).requires y.1) ∷ []) ∵
        keep ! (0 ∷ []) $ split ! $ move ! (1 ∷ []) $ drop ! $
        enter ! C Λ code.function [] after $ alloc_all ! (λ l. pass_all ! refl tt $
        sets ! (agg ! (no_more !)) refl (tt, tt) $
        nothing ! $ owns_nothing ! $ fjoin ! $
        returns ! (look_at ! 0 refl) $ free_all ! refl $
        suffices ! _ (ends_at 𝓛 f.ended stayed c y no_data made tt tt) $ says ! refl $
        nothing ! $ move ! (2 ∷ 0 ∷ 1 ∷ []) $ done !)

  meets : (𝓣 : Tables 𝓤 H) → Meets 𝓛 f.ended.signature (WpFn 𝓤 H 𝓣.C 𝓣.Λ code.function) (closing 𝓛 f.ended c)
  meets 𝓣 = walk_Meets 𝓛 f.ended stayed tt c (WpFn 𝓤 H 𝓣.C 𝓣.Λ code.function) (WpFn-mono 𝓤 H 𝓛.laws 𝓣 code.function) (walked 𝓣.C 𝓣.Λ)

pub new_spec : {M : Type 1} → statement M
unfolding tables_of
new_spec 𝓤 𝓛 𝓜 𝓡 wired =
    let 𝓣 : Tables 𝓤 𝓛.H = tables_of 𝓤 𝓛.H 𝓜 (tables 𝓤 𝓛.H 𝓜 𝓡 𝓡.env) in
    entered 𝓤 𝓛.H (triple_of 𝓛 f.ended.signature (closing 𝓛 f.ended (c 𝓛 𝓜.mem 𝓡.returns))) 𝓣.C 𝓣.Λ f.Key.name code.function
    (code.unfolded 𝓤 𝓛.H 𝓜 𝓡 wired) (meets 𝓛 𝓜.mem 𝓡.returns 𝓣)
