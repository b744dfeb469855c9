-- What a variable takes that no expression for it reads is the same whatever the variable held: that may be forgotten first.
use Rattle.std.proofs.Common.{◌≡◌, ℕ, false, List, [], map, slice_set, All, Option, Some, None, Ok, Err, refl, sym, ap, ◌∙◌, subst, arith, append-nil, get_or-set_other, set-set, true≢false}
use Rattle.std.specs.Cmp.Lexicographic.{pointwise}
use Rattle.std.specs.Option.{unwrap_or}
use Rattle.std.proofs.Math.Nat.{one-dvd, one-mul}
use Rattle.std.proofs.lemmas.List.{map-id}
use Rattle.std.proofs.lemmas.List.Elements.{All-from_recursion}
use Rattle.std.proofs.lemmas.List.Quantifiers.{position-Some}
use Rattle.kf_value.specs.Stores.{stores}
use Rattle.kf_value.specs.Types.{TypeTree}
use Rattle.kf_value.specs.Values.{ValueTree, Truth, is_equal}
use Rattle.kf_column.specs.Columns.{IsColumn}
use Rattle.kf_core.specs.Choices.{choices}
use Rattle.kf_core.specs.Dxs.{DxTree, dx_at}
use Rattle.kf_core.specs.Each.{moved, placed_at}
use Rattle.kf_core.specs.Leaks.{silent}
use Rattle.kf_core.specs.Ready.{IsPushed}
use Rattle.kf_core.specs.Runs.{Run, Tried, assigned, branched, chain, joined, place, replaced, stay, store_at, store_number, tried}
use Rattle.kf_core.proofs.Stores.{lists_decide}
use Rattle.kf_eval.specs.Reads.{dist_reads, placed_reads}
use Rattle.kf_eval.proofs.Agreeing.{same_choices}
use Rattle.kf_push.specs.Following.{Goes, Takes}
use Rattle.kf_push.proofs.Carrying.{Runner, Matrix, goes_behind, pushed_chain}
use Rattle.kf_push.proofs.Declaring.{silent_splits}
use Rattle.kf_run.specs.Forgetting.{forgetting, forgotten}

-- what is chosen and where it leads make the runs, and not the number of the store that they come from
branched_anywhere : (leak : ValueTree → List ValueTree) (n m : ℕ) (next : ValueTree → List Run) (g : Tried) → branched leak n next g ≡ branched leak m next g
branched_anywhere leak n m next (Ok ws) = refl
branched_anywhere leak n m next (Err f) = refl

-- where nothing happens first, the runs are those from there
after_stay : (n : ℕ) (next : Runner) → chain (stay n) next ≡ next n
after_stay n next = append-nil _ ∙ (ap (λ f. map f (next n)) still ∙ map-id (next n))
  where
    still : joined (record { trace = []; end = Ok n; weight = 1; scale = 1 }) ≡ (λ q. q)
    still = λ k q. record { trace = q.trace; end = q.end; weight = one-mul q.weight k; scale = one-mul q.scale k }

module _ (ts : List TypeTree) (i : ℕ) (v : ValueTree) where
  -- ---- one store

  -- the store has the value, and all else as before
  changed_store : (n m : ℕ) → replaced ts i v n ≡ Some m → store_at ts m ≡ slice_set (store_at ts n) i v
  changed_store n m is =
      let s = slice_set (store_at ts n) i v in
      sym ((lists_decide s (store_at ts m)).0 (position-Some (pointwise is_equal s) (stores ts) m [] is).1)

  module _ (n m : ℕ) (store : store_at ts m ≡ slice_set (store_at ts n) i v) where
    -- a distribution that doesn't read the variable chooses the same there
    same_tried : (d : DxTree) → placed_reads i d ≡ false → tried ts d m ≡ tried ts d n
    same_tried (dx_at at d) unread =
        let s = store_at ts n in
        ap (placed_at at)
        (ap (λ t. choices t d) store
        ∙ same_choices (slice_set s i v) s d
        (λ j read. get_or-set_other s i j v (Truth false) (λ same. true≢false (sym read ∙ (ap (λ k. dist_reads k d) same ∙ unread)))))

    -- and the variable's next value leads to the same store
    same_replaced : (w : ValueTree) → replaced ts i w m ≡ replaced ts i w n
    same_replaced w = ap (store_number ts) (ap (λ s. slice_set s i w) store ∙ set-set (store_at ts n) i v w)

  -- every weight goes whole along runs that forget
  pub forgetting_goes : (columns : Matrix) → Goes (forgetting ts i v) columns
  forgetting_goes columns k c here j e there =
      All-from_recursion (Takes _) (forgetting ts i v _) (record { positive = omega arith; divides = one-dvd _; ends = refl }, tt)

  module _ (d : DxTree) (unread : placed_reads i d ≡ false) where
    -- the runs are the same whatever the variable held
    pub forgets : (leak : ValueTree → List ValueTree) (n : ℕ) → assigned leak ts i d (forgotten ts i v n) ≡ assigned leak ts i d n
    forgets leak n = from (replaced ts i v n) refl
      where
        from : (found : Option ℕ) → replaced ts i v n ≡ found → assigned leak ts i d (unwrap_or found n) ≡ assigned leak ts i d n
        from (Some m) is =
            let store = changed_store n m is in
            let tries = same_tried n m store d unread in
            let leads = same_replaced n m store in
            (λ k. branched leak m (λ w. moved (place d) (leads w k)) (tries k)) ∙ branched_anywhere leak m n _ (tried ts d n)
        from None is = refl

    -- ---- columns

    abbrev assigning : Runner
    assigning = assigned silent ts i d

    forgets_first : assigning ≡ (λ n. chain (forgetting ts i v n) assigning)
    forgets_first = λ k n. sym (after_stay (forgotten ts i v n) assigning ∙ forgets silent n) k

    module _ (columns between : Matrix) (are : All IsColumn columns) (goes : Goes (assigned silent ts i d) columns)
        (pushed : IsPushed (forgetting ts i v) columns between) where
      both_go : Goes (λ n. chain (forgetting ts i v n) assigning) columns
      both_go = subst (λ (from : Runner). Goes from columns) forgets_first goes

      -- where weights go whole along the assignment, they do once the variable is forgotten
      pub forgotten_goes : Goes (assigned silent ts i d) between
      forgotten_goes = goes_behind (forgetting ts i v) assigning columns between are (forgetting_goes columns) both_go pushed

      -- and what it makes of the columns then, it makes of them as they were
      pub forgotten_pushed : (after : Matrix) → IsPushed (assigned silent ts i d) between after → IsPushed (assigned silent ts i d) columns after
      forgotten_pushed after next =
          subst (λ (from : Runner). IsPushed from columns after) (sym forgets_first)
          (pushed_chain (forgetting ts i v) assigning columns between after (silent_splits (forgetting ts i v) (λ n. (refl, tt))) are (forgetting_goes columns) both_go
          pushed next)
