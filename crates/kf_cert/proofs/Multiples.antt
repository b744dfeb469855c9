-- The least common multiple of all denominators, gathered one after the other.
use Rattle.std.proofs.Common.{◌≡◌, ℕ, zero, suc, ◌+◌, ◌*◌, length, get_or, map, drop, All, ◌<◌, ◌≤◌, List, [], ◌∷◌, sym, ◌∙◌, ap, arith}
use Rattle.std.proofs.lemmas.List.{drop_more}
use Rattle.std.proofs.lemmas.List.Elements.{All-nil, All-cons}
use Rattle.kf_frac.specs.Divisors.{lcm_of, common_multiple}
use Rattle.kf_frac.specs.Laws.{multiple_from}
use Rattle.kf_frac.proofs.CommonMultiples.{lcm_is}
use Rattle.kf_frac.proofs.Multiples.{ArePositive, growing, from_one}
use Rattle.kf_cert.specs.Certificates.{EntryTree}
use Rattle.kf_cert.specs.Rows.{dens}
use Rattle.kf_cert.specs.Views.{entry_tree}
use Rattle.kf_cert.specs.declared.cert.NamedEntry.{NamedEntry}

pub entries_positive : (es : List NamedEntry) → ArePositive (dens (map entry_tree es))
entries_positive [] = tt
entries_positive (e ∷ es) = (e.value.positive, entries_positive es)

pub are_fractions : (es : List NamedEntry) → All (λ e. 0 < e.value.den) (map entry_tree es)
are_fractions [] = All-nil (λ (e : EntryTree). 0 < e.value.den)
are_fractions (e ∷ es) = All-cons (λ (e : EntryTree). 0 < e.value.den) (entry_tree e) (map entry_tree es) e.value.positive (are_fractions es)

pub denominator_is : (es : List NamedEntry) → multiple_from 1 (dens (map entry_tree es)) ≡ common_multiple (dens (map entry_tree es))
denominator_is es = from_one (dens (map entry_tree es)) (entries_positive es)

-- ---- one step of a loop

module _ (es : List NamedEntry) (i multiple : ℕ) (e : NamedEntry) (within : i < length es) (is : e ≡ get_or es i e) where
  pub entry_more : multiple_from multiple (dens (map entry_tree (drop i es))) ≡ multiple_from (lcm_of e.value.den multiple) (dens (map entry_tree (drop (i + 1) es)))
  entry_more =
      let rest : drop i es ≡ e ∷ drop (i + 1) es = drop_more es i e within ∙ ap (λ (f : NamedEntry). f ∷ drop (i + 1) es) (sym is) in
      ap (λ (l : List NamedEntry). multiple_from multiple (dens (map entry_tree l))) rest

  -- where it passes the limit there, it does at the end
  pub entry_wide : (most : ℕ) → 0 < multiple → multiple_from multiple (dens (map entry_tree (drop i es))) ≤ most → lcm_of e.value.den multiple ≤ most
  entry_wide most some small =
      omega (
        arith,
        small,
        entry_more,
        growing (lcm_of e.value.den multiple) (dens (map entry_tree (drop (i + 1) es))) (lcm_is e.value.den multiple e.value.positive some).positive (entries_positive (drop (i + 1) es)),
      )

pub at_least_itself : (m n : ℕ) → 0 < m → n ≤ m * n
at_least_itself zero n some = absurd (omega arith)
at_least_itself (suc m) n some = omega arith
