use Rattle.kf_cert.proofs.Accepting.{accepted_shows, carrying_accepted, named_accepted, separating_accepted}
use Rattle.kf_cert.proofs.Formed.{read_sound}
use Rattle.kf_cert.proofs.NamedRows.{names_all}
use Rattle.kf_cert.proofs.Printable.{verdicts_writable}
use Rattle.kf_cert.proofs.Proclaiming.{written}
use Rattle.kf_cert.proofs.ReadingBack.{reads_back}
use Rattle.kf_cert.proofs.RejectedMarks.{rejected_shows_not}
use Rattle.kf_cert.proofs.laws.cert_laws.Goals as goal

pub returns-clause-shows : goal.returns-clause-shows
returns-clause-shows c = accepted_shows

pub returns-clause-shows_not : goal.returns-clause-shows_not
returns-clause-shows_not c = rejected_shows_not

pub returns-clause-carrying : goal.returns-clause-carrying
returns-clause-carrying c = carrying_accepted

pub returns-clause-named : goal.returns-clause-named
returns-clause-named c = named_accepted

pub returns-clause-separating : goal.returns-clause-separating
returns-clause-separating c = separating_accepted

pub returns-clause-writable : goal.returns-clause-writable
returns-clause-writable c = verdicts_writable

pub returns-clause-reads_back : goal.returns-clause-reads_back
returns-clause-reads_back c = reads_back

pub returns-clause-written : goal.returns-clause-written
returns-clause-written c a b pivots v cert r is_a is_b sized =
    written reads_back a b pivots v cert r (λ m n. c.text_laws.ensures a.target m n sized) is_a is_b

pub returns-clause-read_sound : goal.returns-clause-read_sound
returns-clause-read_sound c = read_sound

pub returns-clause-names_all : goal.returns-clause-names_all
returns-clause-names_all c = names_all
