use Rattle.kf_capacity.proofs.capacities.sum_of_all.Goals as goal

pub returns-in-Some : goal.returns-in-Some
returns-in-Some c =
    let sum = rw (c.as_slice.ensures, c.as_slice-in-Some.ensures) at c.sum_of_pairs.ensures in
    rw (c.in-Some.is) sum
