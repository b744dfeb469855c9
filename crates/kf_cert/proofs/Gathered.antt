-- A list that is made of the values of a JSON list, one by one, unless one of them can't be read.
use Rattle.std.proofs.Common.{◌≡◌, ◌<◌, ◌≤◌, ◌+◌, ℕ, length, map, drop, get_or, List, [], ◌∷◌, ◌++◌, Bool, true, false, Result, Ok, Err, IfOk, IfErr, sym, ap, ◌∙◌, subst}
use Rattle.std.specs.Prelude.{◌≢◌}
use Rattle.std.specs.List.{AllZip, list_all}
use Rattle.serde_json.specs.Data.{Data}
use Rattle.serde_json.specs.View.{view}
use Rattle.serde_json.specs.declared.value.Value.{Value}
use Rattle.kf_json.proofs.Carrying.{Carries, carries_first, carries_more, carries_out, carries_bad, zip_map}
use Rattle.kf_cert.specs.declared.cert.CertError.{CertError}
use Rattle.kf_cert.specs.declared.cert.CertError.TheVariants as broken

-- what is made of a value shows what the value says
abbrev pub Said : {Y Z : Type 0} → (Data → Z) → (Y → Z) → Data → Y → Type 0
Said f g d y = g y ≡ f d

abbrev pub Gathers : {Y Z : Type 0} → (Data → Z) → (Y → Z) → (Data → Bool) → List Value → ℕ → List Y → Type 0
Gathers f g p vs i made = Carries (Said f g) p (map view (drop i vs)) (map view vs) made

module _ {Y Z : Type 0} (f : Data → Z) (g : Y → Z) (p : Data → Bool) (vs : List Value) where
  pub gathers_first : (made : List Y) → made ≡ [] → Gathers f g p vs 0 made
  gathers_first made none = subst (Carries (Said f g) p (map view vs) (map view vs)) (sym none) (carries_first (Said f g) p (map view vs))

  module _ (i : ℕ) (made : List Y) (had : Gathers f g p vs i made) where
    pub gathers_more : (v : Value) (y : Y) (more : List Y) → i < length vs → v ≡ get_or vs i v → g y ≡ f (view v) → p (view v) ≡ true → more ≡ made ++ y ∷ [] → Gathers f g p vs (i + 1) more
    gathers_more v y more within is says reads put = carries_more (Said f g) p view vs i made v y more within is says reads put had

    pub gathers_next : (v : Value) (r : Result Y CertError) (more : List Y) → i < length vs → v ≡ get_or vs i v → IfOk r (λ y. g y ≡ f (view v)) → IfOk r (λ _. p (view v) ≡ true)
        → (y : Y) × (r ≡ Ok y) × (more ≡ made ++ y ∷ []) → Gathers f g p vs (i + 1) more
    gathers_next v r more within is says reads (y, ok, put) =
        gathers_more v y more within is (subst (λ (r : Result Y CertError). IfOk r (λ y. g y ≡ f (view v))) ok says)
        (subst (λ (r : Result Y CertError). IfOk r (λ _. p (view v) ≡ true)) ok reads) put

    module _ (ds : List Data) (listed : map view vs ≡ ds) where
      pub gathers_all : length vs ≤ i → (map g made ≡ map f ds) × (list_all p ds ≡ true)
      gathers_all past =
          let all = carries_out (Said f g) p view vs i made past had in
          (zip_map f g ds made (subst (λ xs. AllZip (Said f g) xs made) listed all.0), sym (ap (list_all p) listed) ∙ all.1)

      -- the error of the value that can't be read is that of the list
      pub gathers_fails : (v : Value) (e q : CertError) → i < length vs → v ≡ get_or vs i v → q ≡ e → (e ≢ broken.Mem → (e ≡ broken.Wide) × (p (view v) ≡ false))
          → q ≢ broken.Mem → (q ≡ broken.Wide) × (list_all p ds ≡ false)
      gathers_fails v e q within is same told other =
          let fault = told (subst (λ e. e ≢ broken.Mem) same other) in
          (same ∙ fault.0, sym (ap (list_all p) listed) ∙ carries_bad (Said f g) p view vs i made v within is fault.1 had)

      pub gathers_stops : (v : Value) (r : Result Y CertError) (e q : CertError) → i < length vs → v ≡ get_or vs i v → q ≡ e
          → IfErr r (λ e. e ≢ broken.Mem → (e ≡ broken.Wide) × (p (view v) ≡ false)) → (e ≢ broken.Mem → r ≡ Err e)
          → q ≢ broken.Mem → (q ≡ broken.Wide) × (list_all p ds ≡ false)
      gathers_stops v r e q within is same told stopped =
          gathers_fails v e q within is same
          (λ other. subst (λ (r : Result Y CertError). IfErr r (λ e. e ≢ broken.Mem → (e ≡ broken.Wide) × (p (view v) ≡ false))) (stopped other) told other)

-- an error that is told whatever it is
pub always : {Y : Type 0} (R : CertError → Type 0) (r : Result Y CertError) → IfErr r R → IfErr r (λ e. e ≢ broken.Mem → R e)
always R (Ok y) told = told
always R (Err e) told = λ _. told
