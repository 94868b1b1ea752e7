use Rattle.pig_stream.proofs.Drives.{all_taken, handed_between, taken_more}
use Rattle.pig_stream.proofs.laws.takings_join.Goals as goal

pub returns-clause-turns : goal.returns-clause-turns
returns-clause-turns g c = λ a b k s t u x y z m n h j.
    taken_more a b k s t u (λ rows. g.K.Sink.after x rows y) (λ rows. g.K.Sink.after y rows z) (λ rows. g.K.Sink.after x rows z) m n
    (λ xs ys. g.met.K.Sink.onwards x y z xs ys) h j

pub returns-clause-handed : goal.returns-clause-handed
returns-clause-handed g c = λ before behind next s t x y count block h is. handed_between before behind next s t (λ rows. g.K.Sink.after x rows y) count block h is

pub returns-clause-whole : goal.returns-clause-whole
returns-clause-whole g c = λ before behind s t x y count h none dry later. all_taken before behind s t (λ rows. g.K.Sink.after x rows y) count h none dry later
