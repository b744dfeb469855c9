use Rattle.std.proofs.Common.{◌≡◌, ◌<◌, ◌≤◌, ◌++◌, ◌∙◌, ℕ, List, [], ap, sym, subst, append-nil, codes, flat_map, length, get_or, arith}
use Rattle.std.proofs.lemmas.List.{drop_all}
use Rattle.std.specs.List.{enumerate_from}
use Rattle.kf_value.specs.Numbers.{target_size}
use Rattle.kf_hyper.specs.Views.{inner_at, inners_of, scale_of, target_of}
use Rattle.kf_column.specs.Hypers.{Inner}
use Rattle.kf_gain.specs.Views.{gain_tree}
use Rattle.kf_attack.specs.Views.{actions_of}
use Rattle.kf_attack.specs.declared.attack.Attack.{Attack}
use Rattle.kf_text.specs.AttackViews.{own_attack_lines, IsPrintable}
use Rattle.kf_text.specs.ReportTexts.{gain_text}
use Rattle.kf_text.specs.Texts.{line}
use Rattle.kf_text.proofs.Attacking.{all_printable, all_printed, as_many}
use Rattle.kf_text.proofs.attack.attack_text.Goals as goal

pub print_attack-requires-clause-inner : goal.print_attack-requires-clause-inner
print_attack-requires-clause-inner c =
    let g = gain_tree c.args.g.now in
    let within : c.loop-i.i < length c.args.a.now = subst (λ (l : List Attack). c.loop-i.i < length l) c.as_slice-attacks.ensures c.loop-i-test.true in
    omega (arith, within, as_many g (actions_of g) (inners_of c.args.h.now) c.requires.0 c.args.a.now c.requires.1 c.requires.2)

pub print_attack-requires-clause-best : goal.print_attack-requires-clause-best
print_attack-requires-clause-best c =
    let g = gain_tree c.args.g.now in
    let h = c.args.h.now in
    let i = c.loop-i.i in
    let size = target_size (target_of h) in
    let attack = c.index-attacks-i.result in
    let within : i < length c.args.a.now = subst (λ (l : List Attack). i < length l) c.as_slice-attacks.ensures c.loop-i-test.true in
    let is : attack ≡ get_or c.args.a.now i attack = subst (λ (l : List Attack). attack ≡ get_or l i attack) c.as_slice-attacks.ensures c.index-attacks-i.is in
    let all = all_printable g (actions_of g) size (inners_of h) c.requires.0 c.args.a.now h.shape.within c.requires.1 c.requires.2 in
    subst (λ (a : Attack). IsPrintable size (actions_of g) a.best) (sym is) (all i attack within)

pub returns : goal.returns
returns c trees are show =
    let g = gain_tree c.args.g.now in
    let h = c.args.h.now in
    let none : Inner = record { entries = []; total = 0 } in
    let lines = own_attack_lines (target_of h) (scale_of h) (actions_of g) (inner_at h) in
    let past : length c.args.a.now ≤ c.loop-i.i = subst (λ (l : List Attack). length l ≤ c.loop-i.i) c.as_slice-attacks.ensures c.loop-i-test.false in
    let own : c.loop-i.out.items ≡ line (codes "gain " ++ gain_text g) ++ flat_map lines (enumerate_from 0 c.args.a.now) =
    sym (append-nil c.loop-i.out.items)
    ∙ ap (λ (left : List Attack). c.loop-i.out.items ++ flat_map lines (enumerate_from c.loop-i.i left)) (sym (drop_all c.loop-i.i c.args.a.now past))
    ∙ c.loop-i.invariant in
    own ∙ ap (λ (t : List ℕ). line (codes "gain " ++ gain_text g) ++ t)
    (all_printed (target_of h) (actions_of g) (scale_of h) (inner_at h) g 0 (inners_of h) trees c.args.a.now none (λ k within. ap (inner_at h) (omega arith)) are show)
