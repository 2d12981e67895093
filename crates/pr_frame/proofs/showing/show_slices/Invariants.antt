use Rattle.std.proofs.Common.{◌≡◌, ◌+◌, ◌≤◌, length, drop, sum}
use Rattle.std.specs.Prelude.{IsSome}
use Rattle.pw_outside.specs.Ports.{Lowers, GoesOn}
use Rattle.pw_outside.specs.Reading.{Told, rest_of, bytes_of}
use Rattle.pr_geom.specs.Layout.{slices_of}
use Rattle.pr_frame.specs.Reading.{coded_slices_at}
use Rattle.pr_frame.proofs.ShowSteps.{ArePut}
use Rattle.pr_frame.proofs.showing.show_slices.Given as goal

abbrev pub invariant-loop-number : goal.invariant-loop-number
invariant-loop-number g l = record {
  place : l.place + sum (drop l.number l.sizes) ≤ l.initial.place + sum l.sizes;
  told : Told (g.S.ByteSource.left l.initial.source) (λ bytes. sum l.sizes ≤ length bytes) → IsSome (g.S.ByteSource.left l.initial.source) → IsSome (g.S.ByteSource.left l.source);
  more : Told (g.S.ByteSource.left l.initial.source) (λ bytes. sum l.sizes ≤ length bytes) → IsSome (g.S.ByteSource.left l.initial.source) → sum (drop l.number l.sizes) ≤ length (bytes_of (g.S.ByteSource.left l.source));
  put : ArePut l.header l.depth (slices_of l.layout) l.sizes l.number l.output (Told (g.S.ByteSource.left l.initial.source) (λ bytes. sum l.sizes ≤ length bytes) × IsSome (g.S.ByteSource.left l.initial.source))
      (rest_of l.place (g.S.ByteSource.left l.source)) (coded_slices_at l.header (slices_of l.layout) l.sizes (rest_of l.initial.place (g.S.ByteSource.left l.initial.source)));
  most : Lowers (g.S.ByteSource.most l.initial.source) (g.S.ByteSource.most l.source) 0;
  becomes : GoesOn g.S.ByteSource.becomes l.initial.source l.source;
  cause : g.S.ByteSource.faults l.source ≡ g.S.ByteSource.faults l.initial.source;
}
