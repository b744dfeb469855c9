use Rattle.std.proofs.Common.{◌≡◌, ◌<◌, ◌≤◌, List, map, refl, sym, ◌∙◌, ap, subst, arith, ⊎_elim}
use Rattle.std.proofs.lemmas.Bool.{cases_lt}
use Rattle.kf_frac.specs.Fractions.{limit}
use Rattle.kf_frac.specs.Laws.{multiple_from}
use Rattle.kf_capacity.specs.declared.divided.DividedSecret.{DividedSecret}
use Rattle.kf_capacity.specs.Divided.{den_of}
use Rattle.kf_capacity.specs.Grids.{denominator}
use Rattle.kf_capacity.specs.Views.{channel_tree}
use Rattle.kf_capacity.proofs.Channels.{channel_weighs}
use Rattle.kf_capacity.proofs.OwnDenominators.{all_divided, gathered_is}
use Rattle.kf_capacity.proofs.channel_grid.divided_grid.Goals as goal

pub multiple_of-requires : goal.multiple_of-requires
multiple_of-requires c =
    rw c.requires (all_divided (channel_tree c.args.c.now) (channel_weighs c.args.c.now))

pub returns-in_default-clause-wide : goal.returns-in_default-clause-wide
returns-in_default-clause-wide c =
    let t = channel_tree c.args.c.now in
    let same : multiple_from 1 (map den_of c.args.secrets.now) ≡ denominator t =
    ap (λ (ss : List DividedSecret). multiple_from 1 (map den_of ss)) c.requires ∙ gathered_is t (channel_weighs c.args.c.now) in (
      λ same_fault. ⊎_elim (λ (h : limit < denominator t). h)
          (λ (h : denominator t ≤ limit). absurd (c.in_default.ensures.exact (subst (λ n. n ≤ limit) (sym same) h))) (cases_lt limit (denominator t)),
      λ wide. refl,
    )

pub grid_over-requires-clause-over : goal.grid_over-requires-clause-over
grid_over-requires-clause-over c =
    let t = channel_tree c.args.c.now in
    c.in-Some.ensures.exact.1 ∙ ap (λ (ss : List DividedSecret). multiple_from 1 (map den_of ss)) c.requires ∙ gathered_is t (channel_weighs c.args.c.now)

pub returns-in-Err-clause-wide : goal.returns-in-Err-clause-wide
returns-in-Err-clause-wide c =
    let t = channel_tree c.args.c.now in
    let same : multiple_from 1 (map den_of c.args.secrets.now) ≡ denominator t =
    ap (λ (ss : List DividedSecret). multiple_from 1 (map den_of ss)) c.requires ∙ gathered_is t (channel_weighs c.args.c.now) in
    let narrow : denominator t ≤ limit = subst (λ n. n ≤ limit) same c.in-Some.ensures.exact.0 in
    (λ other. absurd (cc), λ wide. absurd (omega (arith, narrow, wide)))
