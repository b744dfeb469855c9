-- One turn over the declared variables.
use Rattle.std.proofs.Common.{◌≡◌, ℕ, zero, suc, ◌+◌, ◌*◌, ◌<◌, ◌≤◌, ◌^◌, true, List, [], ◌∷◌, ◌++◌, length, map, take, drop, get_or, slice_get, Some, refl, sym, ap, ◌∙◌, subst, arith}
use Rattle.std.specs.List.{list_all}
use Rattle.std.proofs.lemmas.Bool.{and_parts}
use Rattle.std.proofs.lemmas.List.{append-nil, drop_more, length-map, map-append, map_more, take-map}
use Rattle.std.proofs.lemmas.Option.{get_or_from_slice_get, slice_get_within}
use Rattle.kf_value.specs.declared.shape.Shape.{Shape}
use Rattle.kf_value.specs.declared.ty.Ty.{Ty}
use Rattle.kf_value.specs.Shapes.{shape_types, shape_sizes}
use Rattle.kf_value.specs.Sizes.{HasSize, well_formed}
use Rattle.kf_value.specs.Types.{TypeTree, count, product}
use Rattle.kf_value.specs.TypeViews.{type_tree}
use Rattle.kf_value.proofs.ListLemmas.{mapped_read}
use Rattle.kf_ast.specs.Sources.{DeclTree, ItemTree, SourceTree, source}
use Rattle.kf_ast.specs.Stmts.{StmtTree}
use Rattle.kf_check.specs.Laws.{IsWellBuilt, CheckedIfTyped}
use Rattle.kf_check.specs.Translation.{Typed, decl_of, names_of}
use Rattle.kf_core.specs.Programs.{ProgramTree}
use Rattle.kf_core.proofs.FirstStore.{first_store_there}
use Rattle.kf_prior.specs.FullSources.{full_decl, initial_stores}
use Rattle.kf_prior.specs.Priors.{initial_count}
use Rattle.kf_prior.proofs.Counting.{first_few, one_more}
use Rattle.kf_prior.specs.Literals.{full_decls}

formed_at : (ts : List TypeTree) (i : ℕ) (t : TypeTree) → list_all well_formed ts ≡ true → slice_get ts i ≡ Some t → well_formed t ≡ true
formed_at [] i t h at = (cc)
formed_at (u ∷ ts) zero t h at =
    let both = and_parts (well_formed u) (list_all well_formed ts) h in
    let same : u ≡ t = cc in
    subst (λ v. well_formed v ≡ true) same both.0
formed_at (u ∷ ts) (suc i) t h at = formed_at ts i t (and_parts (well_formed u) (list_all well_formed ts) h).1 at

module _ (shape : Shape) (items : List Ty) (i : ℕ) (x : Ty) (same : map type_tree items ≡ shape_types shape)
    (within : i < length (shape_types shape)) (is : x ≡ get_or items i x) where
  pub type_here : slice_get (shape_types shape) i ≡ Some (type_tree x)
  type_here =
      let long = length-map items type_tree in
      let counted : length (map type_tree items) ≡ length (shape_types shape) = ap length same in
      subst (λ ts. slice_get ts i ≡ Some (type_tree x)) same (mapped_read type_tree items i x (omega arith) is)

  pub formed_here : well_formed (type_tree x) ≡ true
  formed_here = formed_at (shape_types shape) i (type_tree x) shape.formed type_here

  pub sized_here : HasSize (type_tree x)
  sized_here = subst HasSize (get_or_from_slice_get (shape_types shape) i (type_tree x) (type_tree x) type_here) (shape.sized i (type_tree x) within)

  pub size_here : get_or (shape_sizes shape) i 0 ≡ count (type_tree x)
  size_here =
      let read = sym (get_or_from_slice_get (shape_types shape) i (type_tree x) (type_tree x) type_here) in
      get_or_from_slice_get (shape_sizes shape) i (count (type_tree x)) 0 (mapped_read count (shape_types shape) i (type_tree x) within read)

  pub decls_here : (ds : List DeclTree) (d : DeclTree) (later : List DeclTree) → ds ≡ d ∷ later
      → full_decls (drop i (shape_types shape)) ds ≡ full_decl (type_tree x) d ∷ full_decls (drop (i + 1) (shape_types shape)) later
  decls_here ds d later are =
      let first = drop_more (shape_types shape) i (type_tree x) within
      ∙ ap (λ t. t ∷ drop (i + 1) (shape_types shape)) (get_or_from_slice_get (shape_types shape) i (type_tree x) (type_tree x) type_here) in
      rw (are, first) refl

-- how many stores the first variables have
module _ (shape : Shape) (i : ℕ) (within : i < length (shape_types shape)) where
  pub stores_here : product (map count (take (i + 1) (shape_types shape))) ≡ product (map count (take i (shape_types shape))) * get_or (shape_sizes shape) i 0
  stores_here =
      let long = length-map (shape_types shape) count in
      ap product (sym (take-map count (i + 1) (shape_types shape)))
      ∙ (one_more (shape_sizes shape) i 0 (omega arith) ∙ ap (λ ns. product ns * get_or (shape_sizes shape) i 0) (take-map count i (shape_types shape)))

  pub stores_fit : product (map count (take (i + 1) (shape_types shape))) ≤ 2 ^ 63
  stores_fit =
      let few = first_few (shape_sizes shape) (i + 1) (first_store_there shape) in
      let all = shape.fits in
      let same = ap product (take-map count (i + 1) (shape_types shape)) in
      omega arith

pub pushed : {X Y : Type 0} (f : X → Y) (done : List X) (new : X) (rest : List Y) → map f (done ++ new ∷ []) ++ rest ≡ map f done ++ f new ∷ rest
pushed f [] new rest = refl
pushed f (x ∷ done) new rest = ap (λ ys. f x ∷ ys) (pushed f done new rest)

-- a program has a type for each declaration of its source
pub enough_types : CheckedIfTyped → (s : SourceTree) (p : ProgramTree) → IsWellBuilt s → Typed s p
    → (ds : List DeclTree) (is : List ItemTree) (body : List StmtTree) → s ≡ source ds is body → length ds ≤ length p.types
enough_types checked s p built typed ds is body same =
    let counted = (checked s p built typed).counted in
    let decls : ds ≡ typed.decls = cc (same, typed.is_source) in
    let long = ap length typed.are_decls ∙ length-map typed.decls (decl_of (names_of typed.variables)) in
    let as_many = ap length decls in
    omega arith

-- one more of what is made of a list
pub listed_more :
    {X Y Z : Type 0} (seen : X → Z) (f : Y → Z) (done : List X) (new : X) (ys : List Y) (n : ℕ) (y : Y) → slice_get ys n ≡ Some y → seen new ≡ f y
    → map seen done ≡ map f (take n ys) → map seen (done ++ new ∷ []) ≡ map f (take (n + 1) ys)
listed_more seen f done new ys n y here is so_far =
    let within = slice_get_within ys n y here in
    map-append seen done (new ∷ [])
    ∙ (ap (λ zs. zs ++ seen new ∷ []) so_far
    ∙ (ap (λ z. map f (take n ys) ++ z ∷ []) (is ∙ ap f (sym (get_or_from_slice_get ys n y y here))) ∙ sym (map_more f ys n y within)))

pub no_more_decls : (ts : List TypeTree) (ds done whole : List DeclTree) → ds ≡ [] → done ++ full_decls ts ds ≡ whole → done ≡ whole
no_more_decls [] [] done whole none h = sym (append-nil done) ∙ h
no_more_decls (t ∷ ts) [] done whole none h = sym (append-nil done) ∙ h
no_more_decls ts (d ∷ ds) done whole none h = (cc)

pub stores_of_source : (s : SourceTree) (p : ProgramTree) → Typed s p → initial_count p ≡ initial_stores p.types s
stores_of_source (source ds is body) p typed =
    let decls : typed.decls ≡ ds = cc typed.is_source in
    ap (λ n. product (map count (take n p.types))) (ap length typed.are_decls ∙ (length-map typed.decls (decl_of (names_of typed.variables)) ∙ ap length decls))
