use Rattle.std.proofs.Common.{sym, ap}
use Rattle.kf_lex.specs.Operators.{own_word}
use Rattle.kf_lex.proofs.Spelling.{differs}
use Rattle.kf_lex.proofs.words.own_word.Goals as goal

pub returns-in_default : goal.returns-in_default
returns-in_default c = let no = c.in_default in let text = c.args.text.now in
    simp (
      differs _ text no.not-var,
      differs _ text no.not-vis,
      differs _ text no.not-bool,
      differs _ text no.not-set,
      differs _ text no.not-of,
      differs _ text no.not-about,
      differs _ text no.not-old,
      differs _ text no.not-skip,
      differs _ text no.not-observe,
      differs _ text no.not-if,
      differs _ text no.not-else,
      differs _ text no.not-while,
      differs _ text no.not-uniform,
      differs _ text no.not-choose,
      differs _ text no.not-flip,
      differs _ text no.not-true,
      differs _ text no.not-false,
    )

pub returns-in-var : goal.returns-in-var
returns-in-var c = sym (ap own_word c.in-var.is)

pub returns-in-vis : goal.returns-in-vis
returns-in-vis c = sym (ap own_word c.in-vis.is)

pub returns-in-bool : goal.returns-in-bool
returns-in-bool c = sym (ap own_word c.in-bool.is)

pub returns-in-set : goal.returns-in-set
returns-in-set c = sym (ap own_word c.in-set.is)

pub returns-in-of : goal.returns-in-of
returns-in-of c = sym (ap own_word c.in-of.is)

pub returns-in-about : goal.returns-in-about
returns-in-about c = sym (ap own_word c.in-about.is)

pub returns-in-old : goal.returns-in-old
returns-in-old c = sym (ap own_word c.in-old.is)

pub returns-in-skip : goal.returns-in-skip
returns-in-skip c = sym (ap own_word c.in-skip.is)

pub returns-in-observe : goal.returns-in-observe
returns-in-observe c = sym (ap own_word c.in-observe.is)

pub returns-in-if : goal.returns-in-if
returns-in-if c = sym (ap own_word c.in-if.is)

pub returns-in-else : goal.returns-in-else
returns-in-else c = sym (ap own_word c.in-else.is)

pub returns-in-while : goal.returns-in-while
returns-in-while c = sym (ap own_word c.in-while.is)

pub returns-in-uniform : goal.returns-in-uniform
returns-in-uniform c = sym (ap own_word c.in-uniform.is)

pub returns-in-choose : goal.returns-in-choose
returns-in-choose c = sym (ap own_word c.in-choose.is)

pub returns-in-flip : goal.returns-in-flip
returns-in-flip c = sym (ap own_word c.in-flip.is)

pub returns-in-true : goal.returns-in-true
returns-in-true c = sym (ap own_word c.in-true.is)

pub returns-in-false : goal.returns-in-false
returns-in-false c = sym (ap own_word c.in-false.is)
