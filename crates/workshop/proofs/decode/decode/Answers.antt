use Rattle.std.proofs.Common.{sym, subst}
use Rattle.pw_outside.specs.Reading.{bytes_of}
use Rattle.qt_movie.specs.Movie.{movie_in}
use Rattle.workshop.specs.Decoding.{CompletesDecode}
use Rattle.workshop.proofs.Decoded.{complete}
use Rattle.workshop.proofs.decode.decode.Goals as goal

pub returns-clause-complete : goal.returns-clause-complete
returns-clause-complete g c = λ told nm no nt.
    let file = bytes_of (g.M.ByteStore.bytes c.args.movie.now) in
    subst (CompletesDecode c.args.words.now file (movie_in file)) (sym c.status_of.ensures)
    (complete c.args.words.now file (movie_in file) c.decode_run.result (c.decode_run.ensures.complete told nm no nt))
