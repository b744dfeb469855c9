-- A statement of which nothing is seen may be quiet or not: the program has the same runs.
use Rattle.std.proofs.Common.{◌≡◌, ℕ, ◌+◌, ◌-◌, ◌≤◌, ◌<◌, Bool, true, false, not, List, [], ◌∷◌, drop, get_or, length, map, take, refl, sym, ap, subst, ◌∙◌, arith}
use Rattle.std.proofs.Math.Seq.{drop-cons}
use Rattle.std.proofs.lemmas.Bool.{not-true}
use Rattle.std.proofs.lemmas.List.{get_or-map, length-map}
use Rattle.kf_core.specs.Dxs.{DxTree}
use Rattle.kf_core.specs.Joint.{cells, joint_of, target_number}
use Rattle.kf_core.specs.Programs.{ProgramTree}
use Rattle.kf_core.specs.Runs.{Run, all_runs, chain, copied, declared, program_runs}
use Rattle.kf_core.specs.Scale.{scale_of}
use Rattle.kf_core.specs.Sts.{StTree, Assign, sts}
use Rattle.kf_core.specs.Views.{st_tree}
use Rattle.kf_core.specs.declared.st.St.{St}
use Rattle.kf_core.specs.SupportLaws.{RunsChain}
use Rattle.kf_push.specs.Blocks.{block_runs}
use Rattle.kf_push.proofs.Declaring.{Silent, declared_silent}
use Rattle.kf_silent.specs.Quiet.{hushed, quiet_joint}
use Rattle.kf_silent.specs.Paths.{quiet_runs}
use Rattle.kf_silent.proofs.QuietBlock.{block_rest}
use Rattle.kf_quiet.specs.Unseen.{ShowsNothing}

hushed_silent : (rs : List Run) → Silent rs → hushed rs ≡ rs
hushed_silent [] h = refl
hushed_silent (r ∷ rs) h = let others = hushed_silent rs h.1 in λ i. record r { trace = sym h.0 i } ∷ others i

-- as a declaration
assign_shows : (slot : ℕ) (d : DxTree) → ShowsNothing (Assign slot d false)
assign_shows slot d ts turns n = hushed_silent (all_runs ts turns (sts (Assign slot d false ∷ [])) n) (declared_silent ts slot (d ∷ []) n)

pub hidden_shows : (slot : ℕ) (d : DxTree) (shown : Bool) → not shown ≡ true → ShowsNothing (Assign slot d shown)
hidden_shows slot d shown hidden = subst (λ (b : Bool). ShowsNothing (Assign slot d b)) (sym (not-true shown hidden)) (assign_shows slot d)

module _ (chains : RunsChain) (turns : ℕ) (p : ProgramTree) where
  abbrev rest_from : ℕ → ℕ → List Run
  rest_from k = all_runs p.types turns (sts (drop k p.body))

  pub parted : (k j : ℕ) → k ≤ j → rest_from k ≡ (λ n. chain (block_runs turns p k j n) (rest_from j))
  parted k j ordered =
      ap (λ xs. all_runs p.types turns (sts xs)) (block_rest k j p.body ordered)
      ∙ (λ i n. chains p.types turns (take (j - k) (drop k p.body)) (drop j p.body) n i)

  module _ (i : ℕ) (s : StTree) (inside : i < length p.body) (is : s ≡ get_or p.body i s) (nothing : ShowsNothing s) where
    one : take ((i + 1) - i) (drop i p.body) ≡ s ∷ []
    one =
        let far : (i + 1) - i ≡ 1 = omega arith in
        ap (λ k. take k (drop i p.body)) far ∙ ap (λ xs. take 1 xs) (drop-cons p.body i s inside) ∙ ap (λ x. x ∷ []) (sym is)

    seen_is : (n : ℕ) → hushed (block_runs turns p i (i + 1) n) ≡ block_runs turns p i (i + 1) n
    seen_is n =
        subst (λ xs. hushed (all_runs p.types turns (sts xs) n) ≡ all_runs p.types turns (sts xs) n) (sym one) (nothing p.types turns n)

    body_is : (λ n. chain (block_runs turns p 0 i n) (λ m. chain (hushed (block_runs turns p i (i + 1) m)) (rest_from (i + 1)))) ≡ rest_from 0
    body_is =
        (λ j n. chain (block_runs turns p 0 i n) (λ m. chain (seen_is m j) (rest_from (i + 1))))
        ∙ (λ j n. chain (block_runs turns p 0 i n) (sym (parted i (i + 1) (omega arith)) j))
        ∙ sym (parted 0 i (omega arith))

    runs_are : quiet_runs turns p i (i + 1) ≡ program_runs turns p
    runs_are = λ j. chain (declared p.types 0 p.decls 0) (λ n. body_is j (copied p n))

    -- the joint of the program in which it is quiet is that of the program
    pub quiet_is : quiet_joint turns p i (i + 1) ≡ joint_of turns p
    quiet_is = ap (cells (target_number p) (scale_of turns p)) runs_are

  -- so it is where the code has its statements
  pub unseen_is : (i : ℕ) (xs : List St) (x : St) → map st_tree xs ≡ p.body → i < length p.body → x ≡ get_or xs i x → ShowsNothing (st_tree x)
      → quiet_joint turns p i (i + 1) ≡ joint_of turns p
  unseen_is i xs x all inside is nothing =
      let within : i < length xs = omega (arith, inside, ap length all, length-map xs st_tree) in
      let here : st_tree x ≡ get_or p.body i (st_tree x) =
      ap st_tree is ∙ sym (get_or-map st_tree xs i x (st_tree x) within) ∙ ap (λ ys. get_or ys i (st_tree x)) all in
      quiet_is i (st_tree x) inside here nothing
