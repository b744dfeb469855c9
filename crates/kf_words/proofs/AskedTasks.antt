-- What is asked for by a command and as many values as it has.
use Rattle.std.proofs.Common.{◌≡◌, ℕ, List, [], ◌∷◌, map, length, get_or, Option, Some, None, Result, Ok, Err, Bor, IfOk, subst, refl, sym, ap, ◌∙◌, arith}
use Rattle.std.specs.Prelude.{option_map, IfSome, IsSomeAnd}
use Rattle.kf_words.specs.CommandViews.{pair_task}
use Rattle.kf_words.specs.Jobs.{task_of_job, IsInRange}
use Rattle.kf_words.specs.Numbers.{block_of, probability_of, threshold_of}
use Rattle.kf_words.specs.Task as task
use Rattle.kf_words.specs.declared.job.Job.{Job}
use Rattle.kf_words.specs.declared.commands.WithPair.TheVariants as pair

pub not_none : {A : Type 0} (x : A) → ◌≡◌ {A = Option A} (Some x) None → ⊥
not_none x is = (cc)

-- a job that is there, and has this task
pub some_job : {E : Type 0} (X : Type 0) (t : task.Task) (result : Result (Option Job) E) → IfOk result (λ job. IsSomeAnd job (λ j. task_of_job j ≡ t)) → IsInRange t.command
    → IfOk result (λ job. option_map task_of_job job ≡ Some t) × IfOk result (λ job. job ≡ None → X)
    × IfOk result (λ job. IfSome job (λ j. (task_of_job j).turns ≡ t.turns)) × IfOk result (λ job. IfSome job (λ j. IsInRange (task_of_job j).command))
some_job X t (Ok (Some j)) is range = (ap Some is, λ none. absurd (not_none _ none), ap (λ (u : task.Task). u.turns) is, subst (λ (u : task.Task). IsInRange u.command) (sym is) range)
some_job X t (Ok None) is range = absurd is
some_job X t (Err e) is range = (tt, tt, tt, tt)

module _ (d : Bor (List ℕ)) where
  pub one_word : (vs : List (Bor (List ℕ))) → length vs ≡ 1 → map (λ v. v.now) vs ≡ (get_or vs 0 d).now ∷ []
  one_word [] many = absurd (omega arith)
  one_word (a ∷ []) many = refl
  one_word (a ∷ b ∷ vs) many = absurd (omega arith)

  pub two_words : (vs : List (Bor (List ℕ))) → length vs ≡ 2 → map (λ v. v.now) vs ≡ (get_or vs 0 d).now ∷ (get_or vs 1 d).now ∷ []
  two_words [] many = absurd (omega arith)
  two_words (a ∷ []) many = absurd (omega arith)
  two_words (a ∷ b ∷ []) many = refl
  two_words (a ∷ b ∷ c ∷ vs) many = absurd (omega arith)

  pub three_words : (vs : List (Bor (List ℕ))) → length vs ≡ 3 → map (λ v. v.now) vs ≡ (get_or vs 0 d).now ∷ (get_or vs 1 d).now ∷ (get_or vs 2 d).now ∷ []
  three_words [] many = absurd (omega arith)
  three_words (a ∷ []) many = absurd (omega arith)
  three_words (a ∷ b ∷ []) many = absurd (omega arith)
  three_words (a ∷ b ∷ c ∷ []) many = refl
  three_words (a ∷ b ∷ c ∷ e ∷ vs) many = absurd (omega arith)

  module _ (vs : List (Bor (List ℕ))) (numbers : Option (ℕ × ℕ)) where
    pub choice_asked : length vs ≡ 3 → numbers ≡ probability_of (get_or vs 2 d).now
        → pair_task pair.Choice (map (λ v. v.now) vs) ≡ option_map (λ p. task.on_files (task.Compose (task.Choice p.0 p.1)) ((get_or vs 0 d).now ∷ (get_or vs 1 d).now ∷ [])) numbers
    choice_asked many is =
        ap (pair_task pair.Choice) (three_words vs many)
        ∙ ap (option_map (λ p. task.on_files (task.Compose (task.Choice p.0 p.1)) ((get_or vs 0 d).now ∷ (get_or vs 1 d).now ∷ []))) (sym is)

    pub reach_asked : length vs ≡ 2 → numbers ≡ threshold_of (get_or vs 1 d).now
        → pair_task pair.Reach (map (λ v. v.now) vs) ≡ option_map (λ p. task.on_files (task.Reach p.0 p.1) ((get_or vs 0 d).now ∷ [])) numbers
    reach_asked many is = ap (pair_task pair.Reach) (two_words vs many) ∙ ap (option_map (λ p. task.on_files (task.Reach p.0 p.1) ((get_or vs 0 d).now ∷ []))) (sym is)

    pub quiet_asked : length vs ≡ 2 → numbers ≡ block_of (get_or vs 1 d).now
        → pair_task pair.Quiet (map (λ v. v.now) vs) ≡ option_map (λ p. task.on_files (task.Quiet p.0 p.1) ((get_or vs 0 d).now ∷ [])) numbers
    quiet_asked many is = ap (pair_task pair.Quiet) (two_words vs many) ∙ ap (option_map (λ p. task.on_files (task.Quiet p.0 p.1) ((get_or vs 0 d).now ∷ []))) (sym is)
