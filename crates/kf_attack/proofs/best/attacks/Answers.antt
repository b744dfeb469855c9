use Rattle.std.proofs.Common.{rules, ◌≡◌, ℕ, ◌+◌, ◌*◌, ◌<◌, ◌≤◌, ◌∙◌, ◌++◌, ◌∷◌, [], List, length, sym, subst, get_or, take}
use Rattle.std.proofs.lemmas.List.{take_all}
use Rattle.kf_frac.specs.Fractions.{limit}
use Rattle.kf_column.specs.declared.entry.Entry.{Entry}
use Rattle.kf_column.specs.Columns.{total}
use Rattle.kf_column.specs.Hypers.{Inner}
use Rattle.kf_hyper.specs.Views.{inners_of, scale_of}
use Rattle.kf_gain.specs.Vulnerabilities.{width}
use Rattle.kf_gain.specs.Views.{gain_tree}
use Rattle.kf_gain.proofs.Turning.{width_on, room, inner_fits}
use Rattle.kf_attack.specs.declared.attack.Attack.{Attack}
use Rattle.kf_attack.specs.Inners.{IsShownBest}
use Rattle.kf_attack.proofs.Attacked.{Attacked, attacked_next}
use Rattle.kf_attack.proofs.best.attacks.Goals as goal

pub attack-requires-clause-fits : goal.attack-requires-clause-fits
attack-requires-clause-fits c =
    let inners : List Inner = inners_of c.args.h.now in
    let none : Inner = record { entries = []; total = 0 } in
    let i : ℕ = c.loop-i.i in
    let g = gain_tree c.args.g.now in
    let inside : i < length inners = subst (λ (n : ℕ). i < n) c.count-i-end.ensures c.loop-i-test.true in
    let fits : scale_of c.args.h.now * width_on g inners ≤ limit = room g inners (scale_of c.args.h.now) limit c.requires in
    let same : c.as_slice-entries.result.now ≡ (get_or inners i none).entries = c.as_slice-entries.ensures ∙ c.entries.ensures.kept ∙ c.inner.ensures.kept in
    subst (λ (es : List Entry). total es * width g (length es) ≤ limit) (sym same)
    (inner_fits _ (scale_of c.args.h.now) g inners c.has_shape.ensures i none inside limit fits)

pub loop-i-preserved : goal.loop-i-preserved
loop-i-preserved c =
    let inners : List Inner = inners_of c.args.h.now in
    let none : Inner = record { entries = []; total = 0 } in
    let i : ℕ = c.loop-i.i in
    let g = gain_tree c.args.g.now in
    let a : Attack = c.in_ok-attack.field-0 in
    let inside : i < length inners = subst (λ (n : ℕ). i < n) c.count-i-end.ensures c.loop-i-test.true in
    let same : c.as_slice-entries.result.now ≡ (get_or inners i none).entries = c.as_slice-entries.ensures ∙ c.entries.ensures.kept ∙ c.inner.ensures.kept in
    let is : IsShownBest g (get_or inners i none).entries a = subst (λ (es : List Entry). IsShownBest g es a) same c.in_ok-attack.ensures in
    let grown : c.push.new.self.items ≡ c.loop-i.attacks.items ++ a ∷ [] = search rules in
    subst (λ (l : List Attack). Attacked g (take (i + 1) inners) l) (sym grown)
    (attacked_next g inners i none inside c.loop-i.attacks.items c.loop-i.invariant a is)

pub returns : goal.returns
returns c =
    let inners : List Inner = inners_of c.args.h.now in
    let g = gain_tree c.args.g.now in
    let i : ℕ = c.loop-i.i in
    let past : length inners ≤ i = subst (λ (n : ℕ). n ≤ i) c.count-i-end.ensures c.loop-i-test.false in
    let shown : List Attack = c.loop-i.attacks.items in
    let all : Attacked g inners shown = subst (λ (l : List Inner). Attacked g l shown) (take_all i inners past) c.loop-i.invariant in
    rw c.new.ensures (all.trees, all.are, all.show)
