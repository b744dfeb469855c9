-- The line of a site, and the lines of a program, statement by statement.
use Rattle.std.proofs.Common.{◌≡◌, ℕ, ℤ, ◌+◌, ◌*◌, ◌<◌, ◌≤◌, List, [], ◌∷◌, ◌++◌, map, drop, length, get_or, min, refl, sym, ap, subst, ◌∙◌, append_assoc, append-nil, arith}
use Rattle.std.proofs.lemmas.List.{drop_all, drop_more, length-map}
use Rattle.kf_ast.specs.declared.stmt.Stmt.{Stmt}
use Rattle.kf_ast.specs.Views.{stmt_tree}
use Rattle.kf_core.specs.declared.st.St.{St}
use Rattle.kf_core.specs.Views.{st_items, st_tree}
use Rattle.kf_core.specs.Joint.{joint_of}
use Rattle.kf_core.specs.Rows.{IsHyperOf}
use Rattle.kf_frac.specs.Fractions.{limit}
use Rattle.kf_frac.specs.Parts.{IsFraction}
use Rattle.kf_gain.specs.Gains.{GainOf, TableTree, over_of}
use Rattle.kf_gain.specs.Vulnerabilities.{IsPosterior, IsWidth}
use Rattle.kf_gain.proofs.Turning.{width_is}
use Rattle.kf_column.specs.Hypers.{Inner}
use Rattle.kf_lines.specs.Sites as spec
use Rattle.kf_lines.specs.Sites.{sites as sites_of_statement, under}
use Rattle.kf_lines.specs.Summaries.{LineTree}
use Rattle.kf_lines.specs.Views.{AreLinesIn, HasWidth, IsLineIn, IsNarrowIn, IsWideIn, ShowLines, site_of, AreSiteLines}
use Rattle.kf_lines.specs.declared.site.Site.{Site}
use Rattle.kf_lines.specs.declared.summary.Line.{Line}
use Rattle.kf_lines.proofs.Walking.{block_end, block_parts, left_sites}
use Rattle.kf_load.specs.Views.{program_in}
use Rattle.kf_run.specs.Before.{IsBefore, cleared_before, place_before}
use Rattle.kf_run.specs.declared.before.Before.{Before}
use Rattle.kf_quiet.specs.SilentLaws.{SilentWidth}
use Rattle.kf_silent.specs.Silent.{Path, silent_joint}
use Rattle.kf_silent.specs.Paths.{only}
use Rattle.kf_support.specs.Cleared.{program_of, turns_of, whole_scale}
use Rattle.kf_support.specs.declared.cleared.Cleared.{Cleared}

no_both : (a b : ℕ) → a ≤ b → b < a → ⊥
no_both a b le lt = omega (arith, le, lt)

module _ (cleared : Cleared) (g : GainOf TableTree) where
  abbrev joint_without : Path → List Inner → Type 0
  joint_without path inners = IsHyperOf (silent_joint (only path) (turns_of cleared) (program_in cleared)) inners

  -- the line of a site, by the hyper where its statement is silent
  pub line_is : (site : spec.Site) (path : Path) → path ≡ site.path → (l : Line) → l.at ≡ site.at → (inners : List Inner) → joint_without path inners → l.left.inners ≡ length inners
      → (scale : ℕ) → scale ≡ whole_scale cleared → (z : ℤ) → IsPosterior g inners z → IsFraction l.left.posterior z (scale * over_of g) → IsLineIn cleared g site l
  line_is site path same l at inners is counted scale whole z posterior fraction = (
    record { at = site.at; left = record { inners = length inners; posterior = z } },
    record { at = refl; left = record { inners = inners; is_hyper = subst (λ (p : Path). joint_without p inners) same is; counted = refl; posterior = posterior } },
    record { at = at; left = record { inners = counted; posterior = subst (λ (n : ℕ). IsFraction l.left.posterior z (n * over_of g)) whole fraction } },
  )

  -- a gain that fits the whole program fits it where a statement is silent
  pub never_wide : SilentWidth → IsNarrowIn cleared g → (path : Path) (inners : List Inner) → joint_without path inners → (scale : ℕ) → scale ≡ whole_scale cleared
      → (m : ℕ) × IsWidth g inners m × (limit < scale * m) → ⊥
  never_wide law narrow path inners is scale whole wide =
      let left = (law (only path) (turns_of cleared) (program_in cleared) g narrow.1.inners inners narrow.0 narrow.1.is_hyper is).0 narrow.1.is_width in
      let same : wide.0 ≡ narrow.0 = width_is g inners wide.0 wide.1 ∙ sym (width_is g inners narrow.0 left) in
      let fits : scale * wide.0 ≤ limit = subst (λ (n : ℕ). n * wide.0 ≤ limit) (sym whole) (subst (λ (m : ℕ). whole_scale cleared * m ≤ limit) (sym same) narrow.2) in
      no_both (scale * wide.0) limit fits wide.2

  -- how wide the gain is on the whole program, by a hyper of it
  pub width_in : (inners : List Inner) → IsHyperOf (joint_of (turns_of cleared) (program_in cleared)) inners → (m : ℕ) → IsWidth g inners m
      → HasWidth (joint_of (turns_of cleared) (program_in cleared)) g m
  width_in inners is m width = record { inners = inners; is_hyper = is; is_width = width }

  pub narrow_in : (inners : List Inner) → IsHyperOf (joint_of (turns_of cleared) (program_in cleared)) inners → (scale : ℕ) → scale ≡ whole_scale cleared
      → (m : ℕ) × IsWidth g inners m × (scale * m ≤ limit) → IsNarrowIn cleared g
  narrow_in inners is scale same w = (w.0, width_in inners is w.0 w.1, subst (λ (n : ℕ). n * w.0 ≤ limit) same w.2)

  pub wide_in : (inners : List Inner) → IsHyperOf (joint_of (turns_of cleared) (program_in cleared)) inners → (scale : ℕ) → scale ≡ whole_scale cleared
      → (m : ℕ) × IsWidth g inners m × (limit < scale * m) → IsWideIn cleared g
  wide_in inners is scale same w = (w.0, width_in inners is w.0 w.1, subst (λ (n : ℕ). limit < n * w.0) same w.2)

  -- one more line
  pub line_more : (sites : List spec.Site) (lines : List Line) (site : spec.Site) (l : Line) → AreLinesIn cleared g sites lines → IsLineIn cleared g site l
      → AreLinesIn cleared g (sites ++ site ∷ []) (lines ++ l ∷ [])
  line_more [] [] site l h one = (one, tt)
  line_more [] (k ∷ ks) site l h one = absurd h
  line_more (s ∷ ss) [] site l h one = absurd h
  line_more (s ∷ ss) (k ∷ ks) site l h one = (h.0, line_more ss ks site l h.1 one)

  -- the lines, apart from how they are shown
  pub trees_of : (sites : List spec.Site) (lines : List Line) → AreLinesIn cleared g sites lines
      → (trees : List LineTree) × AreSiteLines g (turns_of cleared) (program_in cleared) sites trees × ShowLines (whole_scale cleared * over_of g) trees lines
  trees_of [] [] h = ([], tt, tt)
  trees_of [] (k ∷ ks) h = absurd h
  trees_of (s ∷ ss) [] h = absurd h
  trees_of (s ∷ ss) (k ∷ ks) h =
      let others = trees_of ss ks h.1 in
      (h.0.0 ∷ others.0, (h.0.1, others.1), (h.0.2, others.2))

-- ---- the sites of one statement

module _ (cleared : Cleared) (g : GainOf TableTree) (i : ℕ) where
  -- of the sites of a statement those from one on are left
  pub record AddsOn (done : List spec.Site) (sites : List Site) (k : ℕ) (lines : List Line) : Type 0 where
    pub so_far : List spec.Site
    pub whole : so_far ++ map (under i) (map site_of (drop k sites)) ≡ done ++ map (under i) (map site_of sites)
    pub are : AreLinesIn cleared g so_far lines

  pub adds_first : (done : List spec.Site) (sites : List Site) (lines : List Line) → AreLinesIn cleared g done lines → AddsOn done sites 0 lines
  adds_first done sites lines h = record { so_far = done; whole = refl; are = h }

  pub adds_more : (done : List spec.Site) (sites : List Site) (k : ℕ) (site : Site) (lines : List Line) (l : Line) → k < length sites → site ≡ get_or sites k site
      → AddsOn done sites k lines → IsLineIn cleared g (under i (site_of site)) l → AddsOn done sites (k + 1) (lines ++ l ∷ [])
  adds_more done sites k site lines l within is had one =
      let rest = map (under i) (map site_of (drop (k + 1) sites)) in
      let step : map (under i) (map site_of (drop k sites)) ≡ under i (site_of site) ∷ rest =
      ap (λ (ss : List Site). map (under i) (map site_of ss)) (drop_more sites k site within) ∙ ap (λ (s : Site). under i (site_of s) ∷ rest) (sym is) in
      record {
        so_far = had.so_far ++ under i (site_of site) ∷ [];
        whole = append_assoc had.so_far (under i (site_of site) ∷ []) rest ∙ ap (λ (ss : List spec.Site). had.so_far ++ ss) (sym step) ∙ had.whole;
        are = line_more cleared g had.so_far lines (under i (site_of site)) l had.are one;
      }

  pub adds_last : (done : List spec.Site) (sites : List Site) (k : ℕ) (lines : List Line) → length sites ≤ k → AddsOn done sites k lines
      → AreLinesIn cleared g (done ++ map (under i) (map site_of sites)) lines
  adds_last done sites k lines past had =
      let none : map (under i) (map site_of (drop k sites)) ≡ [] = ap (λ (ss : List Site). map (under i) (map site_of ss)) (drop_all k sites past) in
      subst (λ (ss : List spec.Site). AreLinesIn cleared g ss lines)
      (sym (append-nil had.so_far) ∙ ap (λ (ss : List spec.Site). had.so_far ++ ss) (sym none) ∙ had.whole) had.are

-- ---- the lines of a program, one of its statements after the other

-- the columns stand before the statement of this number, and the lines are those of the statements before it
pub record HasLines (cleared : Cleared) (g : GainOf TableTree) (texts : List Stmt) (codes : List St) (i : ℕ) (before : Before) (lines : List Line) : Type 0 where
  pub is_before : IsBefore before
  pub same : cleared_before before ≡ cleared
  pub place : place_before before ≡ i
  pub so_far : List spec.Site
  pub whole : so_far ++ left_sites i texts codes ≡ left_sites 0 texts codes
  pub are : AreLinesIn cleared g so_far lines

pub has_first : (cleared : Cleared) (g : GainOf TableTree) (texts : List Stmt) (codes : List St) (before : Before) (lines : List Line) → lines ≡ [] → IsBefore before
    → cleared_before before ≡ cleared → place_before before ≡ 0 → HasLines cleared g texts codes 0 before lines
has_first cleared g texts codes before lines none is same place =
    record { is_before = is; same = same; place = place; so_far = []; whole = refl; are = subst (AreLinesIn cleared g []) (sym none) tt }

-- what is asked of the columns before a statement
pub narrow_before : (cleared : Cleared) (g : GainOf TableTree) (before : Before) → cleared_before before ≡ cleared → IsNarrowIn cleared g → IsNarrowIn (cleared_before before) g
narrow_before cleared g before same h = subst (λ (c : Cleared). IsNarrowIn c g) (sym same) h

pub within_before : (cleared : Cleared) (before : Before) (i : ℕ) → cleared_before before ≡ cleared → place_before before ≡ i → i < length (program_in cleared).body
    → place_before before < length (program_in (cleared_before before)).body
within_before cleared before i same place lt =
    subst (λ (c : Cleared). place_before before < length (program_in c).body) (sym same) (subst (λ (k : ℕ). k < length (program_in cleared).body) (sym place) lt)

module _ (cleared : Cleared) (g : GainOf TableTree) (texts : List Stmt) (codes : List St) (i : ℕ) (text : Stmt) (code : St) where
  pub has_more : (before after : Before) (lines next : List Line) (sites : List Site) → i < length texts → i < length codes → text ≡ get_or texts i text → code ≡ get_or codes i code
      → map site_of sites ≡ sites_of_statement (stmt_tree text) (st_tree code) → HasLines cleared g texts codes i before lines
      → ((done : List spec.Site) → AreLinesIn (cleared_before before) g done lines
      → AreLinesIn (cleared_before before) g (done ++ map (under (place_before before)) (map site_of sites)) next)
      → IsBefore after → cleared_before after ≡ cleared_before before → place_before after ≡ place_before before + 1 → HasLines cleared g texts codes (i + 1) after next
  has_more before after lines next sites in_texts in_codes text_is code_is sites_are had adds is same place =
      let own = sites_of_statement (stmt_tree text) (st_tree code) in
      let rest = left_sites (i + 1) texts codes in
      let parts : left_sites i texts codes ≡ map (under i) own ++ rest = block_parts i texts codes text code in_texts in_codes text_is code_is in
      let added : AreLinesIn (cleared_before before) g (had.so_far ++ map (under (place_before before)) (map site_of sites)) next =
      adds had.so_far (subst (λ (c : Cleared). AreLinesIn c g had.so_far lines) (sym had.same) had.are) in
      record {
        is_before = is;
        same = same ∙ had.same;
        place = place ∙ ap (λ (k : ℕ). k + 1) had.place;
        so_far = had.so_far ++ map (under i) own;
        whole = append_assoc had.so_far (map (under i) own) rest ∙ ap (λ (ss : List spec.Site). had.so_far ++ ss) (sym parts) ∙ had.whole;
        are = subst (λ (c : Cleared). AreLinesIn c g (had.so_far ++ map (under i) own) next) had.same
            (subst (λ (ss : List spec.Site). AreLinesIn (cleared_before before) g (had.so_far ++ ss) next) (λ j. map (under (had.place j)) (sites_are j)) added);
      }

pub has_all : (cleared : Cleared) (g : GainOf TableTree) (texts : List Stmt) (codes : List St) (i : ℕ) (before : Before) (lines : List Line) → min (length texts) (length codes) ≤ i → HasLines cleared g texts codes i before lines
    → AreLinesIn cleared g (left_sites 0 texts codes) lines
has_all cleared g texts codes i before lines past had =
    subst (λ (ss : List spec.Site). AreLinesIn cleared g ss lines)
    (sym (append-nil had.so_far) ∙ ap (λ (ss : List spec.Site). had.so_far ++ ss) (sym (block_end i texts codes past)) ∙ had.whole) had.are

-- there are as many statements in the program as in the list that is gone through
pub body_long : (cleared : Cleared) (codes : List St) → codes ≡ st_items (program_of cleared).body → (i : ℕ) → i < length codes → i < length (program_in cleared).body
body_long cleared codes same i lt =
    subst (λ (n : ℕ). i < n) (ap length same ∙ sym (length-map (st_items (program_of cleared).body) st_tree)) lt

pub of_body : (cleared : Cleared) (g : GainOf TableTree) (texts : List Stmt) (codes : List St) → codes ≡ st_items (program_of cleared).body → (lines : List Line)
    → AreLinesIn cleared g (left_sites 0 texts codes) lines → AreLinesIn cleared g (left_sites 0 texts (st_items (program_of cleared).body)) lines
of_body cleared g texts codes same lines h = subst (λ (cs : List St). AreLinesIn cleared g (left_sites 0 texts cs) lines) same h
