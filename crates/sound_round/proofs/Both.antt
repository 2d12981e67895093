-- The pictures and the sound are read back from the written movie.
use Rattle.sound_round.specs.Laws.{AddedPicturesAreRead, AddedSoundIsTakenOut, AddedIsReadAgain}
use Rattle.sound_round.proofs.Bodies.{is-added}

pub both-read : AddedPicturesAreRead → AddedSoundIsTakenOut → AddedIsReadAgain
both-read read taken file wav bytes done =
    let a = is-added file wav done in
    let n = read file wav a.m bytes a.movie done in
    let w = taken file wav done in
    record {
      movie = a.m;
      is_movie = a.movie;
      written = n.0;
      is_written = n.1;
      pictures = n.2;
      sound = w.0;
      is_sound = w.1;
      comes_out = w.2;
    }
