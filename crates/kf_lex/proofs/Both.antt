-- Both parts of what holds of two.
use Rattle.std.proofs.Common.{◌≡◌, ◌&&◌, Bool, true, false, ℕ, List, [], ◌∷◌, ◌++◌, refl}
use Rattle.std.specs.List.{AllByRecursion}

pub and_first : (a b : Bool) → (a && b) ≡ true → a ≡ true
and_first true b h = refl
and_first false b h = cc

pub and_second : (a b : Bool) → (a && b) ≡ true → b ≡ true
and_second true b h = h
and_second false b h = cc

-- what holds of each element holds of those behind a front
pub all_behind : (P : ℕ → Type 0) (front rest : List ℕ) → AllByRecursion P (front ++ rest) → AllByRecursion P rest
all_behind P [] rest h = h
all_behind P (x ∷ front) rest h = all_behind P front rest h.1
