-- Facts about lists of any kind.
use Rattle.std.proofs.Common.{◌≡◌, ℕ, ◌+◌, ◌<◌, ◌≤◌, List, [], ◌∷◌, map, reverse, take, drop, length, get_or, slice_get, Some, zero, suc, ◌++◌, subst, refl, sym, ap, ◌∙◌}
use Rattle.std.proofs.lemmas.List.{drop_more, drop_all, map-append, take_more}
use Rattle.std.proofs.lemmas.Option.{slice_get-map, slice_get-get_or}
use Rattle.std.specs.Option.{option_map}
use mathlib.Core.List.{reverse_aux}
use Rattle.std.specs.List.{AllByRecursion as Each, flat_map}

reverse_aux-map : {X Y : Type 0} (f : X → Y) (xs acc : List X) → reverse_aux (map f xs) (map f acc) ≡ map f (reverse_aux xs acc)
reverse_aux-map f [] acc = refl
reverse_aux-map f (x ∷ xs) acc = reverse_aux-map f xs (x ∷ acc)

pub map-reverse : {X Y : Type 0} (f : X → Y) (xs : List X) → map f (reverse xs) ≡ reverse (map f xs)
map-reverse f xs = sym (reverse_aux-map f xs [])

-- what a loop has left, at a turn and at the end
pub left_step : {X Y : Type 0} (f : X → Y) (xs : List X) (i : ℕ) (x : X) → i < length xs → x ≡ get_or xs i x
    → map f (drop i xs) ≡ f x ∷ map f (drop (i + 1) xs)
left_step f xs i x within read = ap (map f) (drop_more xs i x within) ∙ ap (λ y. f y ∷ map f (drop (i + 1) xs)) (sym read)

pub left_end : {X Y : Type 0} (f : X → Y) (xs : List X) (i : ℕ) → length xs ≤ i → map f (drop i xs) ≡ []
left_end f xs i past = ap (map f) (drop_all i xs past)

-- ---- facts of each element

pub each_append : {X : Type 0} (P : X → Type 0) (xs ys : List X) → Each P xs → Each P ys → Each P (xs ++ ys)
each_append P [] ys hx hy = hy
each_append P (x ∷ xs) ys hx hy = (hx.0, each_append P xs ys hx.1 hy)

each_reverse_aux : {X : Type 0} (P : X → Type 0) (xs acc : List X) → Each P xs → Each P acc → Each P (reverse_aux xs acc)
each_reverse_aux P [] acc hx ha = ha
each_reverse_aux P (x ∷ xs) acc hx ha = each_reverse_aux P xs (x ∷ acc) hx.1 (hx.0, ha)

pub each_reverse : {X : Type 0} (P : X → Type 0) (xs : List X) → Each P xs → Each P (reverse xs)
each_reverse P xs h = each_reverse_aux P xs [] h tt

pub each_map : {X Y : Type 0} (P : Y → Type 0) (f : X → Y) (xs : List X) → Each (λ x. P (f x)) xs → Each P (map f xs)
each_map P f [] h = tt
each_map P f (x ∷ xs) h = (h.0, each_map P f xs h.1)

pub each_any : {X : Type 0} (P : X → Type 0) → ((x : X) → P x) → (xs : List X) → Each P xs
each_any P all [] = tt
each_any P all (x ∷ xs) = (all x, each_any P all xs)

pub each_weaker : {X : Type 0} (P Q : X → Type 0) → ((x : X) → P x → Q x) → (xs : List X) → Each P xs → Each Q xs
each_weaker P Q go [] h = tt
each_weaker P Q go (x ∷ xs) h = (go x h.0, each_weaker P Q go xs h.1)

pub each_flat_map : {X Y : Type 0} (P : Y → Type 0) (f : X → List Y) (xs : List X) → Each (λ x. Each P (f x)) xs → Each P (flat_map f xs)
each_flat_map P f [] h = tt
each_flat_map P f (x ∷ xs) h = each_append P (f x) (flat_map f xs) h.0 (each_flat_map P f xs h.1)

pub each_at : {X : Type 0} (P : X → Type 0) (xs : List X) (i : ℕ) (x : X) → Each P xs → slice_get xs i ≡ Some x → P x
each_at P [] i x h at = (cc)
each_at P (y ∷ ys) zero x h at = let same : y ≡ x = (cc) in subst P same h.0
each_at P (y ∷ ys) (suc i) x h at = each_at P ys i x h.1 at

pub each_both : {X : Type 0} (P Q R : X → Type 0) → ((x : X) → P x → Q x → R x) → (xs : List X) → Each P xs → Each Q xs → Each R xs
each_both P Q R go [] hp hq = tt
each_both P Q R go (x ∷ xs) hp hq = (go x hp.0 hq.0, each_both P Q R go xs hp.1 hq.1)

-- what a read of a list tells of the mapped list
pub mapped_read : {X Y : Type 0} (f : X → Y) (xs : List X) (i : ℕ) (x : X) → i < length xs → x ≡ get_or xs i x → slice_get (map f xs) i ≡ Some (f x)
mapped_read f xs i x within read =
    slice_get-map f xs i ∙ (ap (option_map f) (slice_get-get_or xs i x within) ∙ ap (λ y. Some (f y)) (sym read))

-- what one more element tells of the mapped list
pub mapped_push : {X Y : Type 0} (f : X → Y) (xs ys : List X) (x : X) (y : Y) → ys ≡ xs ++ x ∷ [] → f x ≡ y → map f ys ≡ map f xs ++ y ∷ []
mapped_push f xs ys x y pushed is = ap (map f) pushed ∙ (map-append f xs (x ∷ []) ∙ ap (λ z. map f xs ++ z ∷ []) is)

-- one more element of a list is copied
pub copied_more : {X Y : Type 0} (f : X → Y) (xs made new : List X) (i : ℕ) (x y : X) → i < length xs → x ≡ get_or xs i x → f y ≡ f x
    → new ≡ made ++ y ∷ [] → map f made ≡ map f (take i xs) → map f new ≡ map f (take (i + 1) xs)
copied_more f xs made new i x y within read same pushed had =
    let more : map f (take (i + 1) xs) ≡ map f (take i xs) ++ f x ∷ [] =
    mapped_push f (take i xs) (take (i + 1) xs) (get_or xs i x) (f x) (take_more xs i x within) (ap f (sym read)) in
    mapped_push f made new y (f x) pushed same ∙ (ap (λ zs. zs ++ f x ∷ []) had ∙ sym more)
