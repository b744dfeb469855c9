-- For bodies: what a program that columns can be pushed through shows of itself.
use Rattle.kf_support.specs.declared.cleared.Cleared.{Cleared}
use Rattle.kf_run.specs.declared.pusher.Pushing.{Pushing}
use Rattle.kf_run.specs.declared.pusher.PushingRef.{PushingRef}

-- the cleared program that it borrows
abbrev pub cleared_of : PushingRef → Cleared
cleared_of p = p.cleared.now

-- the cleared program that it owns
abbrev pub owned_by : Pushing → Cleared
owned_by p = p.cleared
