use Rattle.std.proofs.Common.{◌≡◌, ◌+◌, ◌-◌, ◌≤◌, length}
use Rattle.std.specs.Prelude.{IsSome}
use Rattle.std.specs.List.{All}
use Rattle.pw_outside.specs.Ports.{Lowers, GoesOn}
use Rattle.pw_outside.specs.Reading.{Told, rest_of, bytes_of}
use Rattle.pw_outside.proofs.Chains.{with_front}
use Rattle.pr_frame.specs.Coded.{IsCodedPicture}
use Rattle.pr_frame.specs.Reading.{coded_pictures_at}
use Rattle.pr_frame.proofs.read.read_pictures.Given as goal

abbrev pub invariant-loop : goal.invariant-loop
invariant-loop g l = record {
  count : length l.pictures.items ≡ l.counter;
  place : l.place ≤ l.frame;
  told : Told (g.S.ByteSource.left l.initial.source) (λ bytes. l.frame ≤ l.initial.place + length bytes) → IsSome (g.S.ByteSource.left l.initial.source) → IsSome (g.S.ByteSource.left l.source);
  more : Told (g.S.ByteSource.left l.initial.source) (λ bytes. l.frame ≤ l.initial.place + length bytes) → IsSome (g.S.ByteSource.left l.initial.source) → l.frame ≤ l.place + length (bytes_of (g.S.ByteSource.left l.source));
  bytes : Told (g.S.ByteSource.left l.initial.source) (λ bytes. l.frame ≤ l.initial.place + length bytes) → IsSome (g.S.ByteSource.left l.initial.source)
      → with_front l.pictures.items (coded_pictures_at (l.count - l.counter) l.frame l.header (rest_of l.place (g.S.ByteSource.left l.source)))
      ≡ coded_pictures_at l.count l.frame l.header (rest_of l.initial.place (g.S.ByteSource.left l.initial.source));
  pictures : All (IsCodedPicture l.header) l.pictures.items;
  most : Lowers (g.S.ByteSource.most l.initial.source) (g.S.ByteSource.most l.source) 0;
  becomes : GoesOn g.S.ByteSource.becomes l.initial.source l.source;
  cause : g.S.ByteSource.faults l.source ≡ g.S.ByteSource.faults l.initial.source;
}
