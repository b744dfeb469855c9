use Rattle.std.proofs.Common.{◌≡◌, ◌≤◌, ◌^◌, None, sym, subst, arith}
use Rattle.kf_value.specs.Sizes.{fault_of, well_formed}
use Rattle.kf_value.specs.Targets.{Item}
use Rattle.kf_value.specs.Numbers.{target_size}
use Rattle.kf_value.proofs.Items.{all_items, test_items, as_many_items}
use Rattle.kf_value.proofs.target.Target.copy.Goals as goal

pub invariant_of-result : goal.invariant_of-result
invariant_of-result c =
    let many = as_many_items c.in_ok-copy.field-0 c.args.self.now.items c.in_ok-copy.ensures in
    let some = c.args.self.now.some in
    record {
      some = omega (arith, some, many);
      formed = test_items (λ (i : Item). well_formed i.ty) c.in_ok-copy.field-0 c.args.self.now.items c.in_ok-copy.ensures c.args.self.now.formed;
      sized = all_items (λ (i : Item). fault_of i.ty ≡ None) c.in_ok-copy.field-0 c.args.self.now.items c.in_ok-copy.ensures c.args.self.now.sized;
      fits = subst (λ items. target_size items ≤ 2 ^ 63) (sym c.in_ok-copy.ensures) c.args.self.now.fits;
    }
