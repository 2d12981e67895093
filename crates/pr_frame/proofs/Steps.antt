-- One component, and alpha values, read.
use Rattle.std.proofs.Common.{◌≡◌, ℕ, suc, ◌+◌, ◌<◌, ◌≤◌, get_or, List, [], ◌∷◌, ◌++◌, Option, Some, None, Ok, Err, length, take, drop, refl, sym, ap, subst, ◌∙◌, arith, inl, inr, take_at, length-take-le}
use Rattle.std.specs.Prelude.{IsSome, OnOk, IfErr, Result}
use Rattle.std.specs.Io.KnownBytes.{Consumes, IsAtEnd}
use Rattle.std.proofs.lemmas.Bool.{cases_lt}
use Rattle.std.proofs.lemmas.List.{append-nil, take_all, drop_all, drop_at}
use Rattle.std.specs.List.{All}
use Rattle.std.proofs.lemmas.List.Elements.{All-nil, All-cons}
use Rattle.pw_bits.specs.Window.{first_bytes}
use Rattle.pr_coeff.specs.declared.scan.Scan.{Scan}
use Rattle.pr_coeff.proofs.WholeLemmas.{scan_of, component_again}
use Rattle.pw_outside.specs.Reading.{Rest, Read, bind, Fails, bytes_of, rest_of}
use Rattle.pw_bits.specs.Bits.{bits}
use Rattle.pr_coeff.specs.Component.{Block, Stands, places}
use Rattle.pr_coeff.specs.Reading as coefficients
use Rattle.pr_alpha.specs.Alpha as values
use Rattle.pr_alpha.specs.Reading as reading
use Rattle.pr_alpha.specs.Calls as calls
use Rattle.pr_alpha.specs.declared.read.AlphaFault.{AlphaFault}
use Rattle.pr_alpha.specs.declared.read.AlphaFault.TheVariants as wrong
use Rattle.pr_alpha.proofs.StepLemmas.{alpha_again}
use Rattle.pr_head.specs.declared.fault.FrameKind.{FrameKind}
use Rattle.pr_head.specs.declared.fault.FrameFault.{FrameFault}
use Rattle.pr_head.specs.declared.fault.FrameFault.TheVariants as faults
use Rattle.pr_head.specs.Faults.{told_fault}
use Rattle.pr_frame.specs.Reading.{ahead, blocks_at, IsHeldFault, values_at, IsAlphaFaultOf}

-- the bytes left after n bytes
pub rest-ahead : (at n : ℕ) (old new : Option (List ℕ)) → bytes_of new ≡ drop n (bytes_of old) → ahead n (rest_of at old) ≡ rest_of (at + n) new
rest-ahead at n old new e = λ j. record { place = at + n; bytes = sym e j }

pub blocks-value : (scan : List ℕ) (count size : ℕ) (s : Rest) (blocks : List Block) → coefficients.component_at count scan (bits (take size s.bytes)) ≡ Ok blocks
    → blocks_at scan count size s ≡ Ok (blocks, ahead size s)
unfolding blocks_at bind
blocks-value scan count size s blocks e = rw e refl

-- the bytes of a window
pub window-bytes : (n : ℕ) (o : Option (List ℕ)) → IsSome o → bytes_of (first_bytes n o) ≡ take n (bytes_of o)
window-bytes n (Some l) h = refl
window-bytes n None h = absurd cc

pub window-told : (n : ℕ) (o : Option (List ℕ)) → IsSome o → IsSome (first_bytes n o)
window-told n (Some l) h = refl
window-told n None h = absurd cc

-- blocks for which the bits of a component stand are read from them
pub blocks-stand : (scan : Scan) (count size at : ℕ) (o : Option (List ℕ)) (held : List ℕ) (blocks : List Block) → held ≡ take size (bytes_of o) → length blocks ≡ count → count ≤ 32
    → Stands (bits held) blocks (places scan) → blocks_at (places scan) count size (rest_of at o) ≡ Ok (blocks, ahead size (rest_of at o))
blocks-stand scan count size at o held blocks is number few stands =
    let read : coefficients.component_at (length blocks) (places scan) (bits held) ≡ Ok blocks = component_again (places scan) (bits held) blocks (scan_of scan) (omega arith) stands in
    blocks-value (places scan) count size (rest_of at o) blocks
    (ap (λ l. coefficients.component_at count (places scan) (bits l)) (sym is) ∙ ap (λ n. coefficients.component_at n (places scan) (bits held)) (sym number) ∙ read)

pub blocks-fault : (scan : List ℕ) (count size : ℕ) (s : Rest) (held : List ℕ) (f : FrameFault) → held ≡ take size s.bytes
    → IsHeldFault s.place (coefficients.component_at count scan (bits held)) f → Fails told_fault f (blocks_at scan count size s)
unfolding blocks_at bind
blocks-fault scan count size s held (faults.Bad kind at) is w =
    let found : coefficients.component_at count scan (bits (take size s.bytes)) ≡ Err w.0 = ap (λ l. coefficients.component_at count scan (bits l)) (sym is) ∙ w.1 in
    rw (found, w.2, w.3) refl
blocks-fault scan count size s held faults.Failed is w = absurd w
blocks-fault scan count size s held faults.NoMemory is w = absurd w

-- the component whose bytes a piece holds
pub component-value : (scan : Scan) (count size at : ℕ) (old new : Option (List ℕ)) (held : List ℕ) (blocks : List Block) (result : Result (Unit {0}) FrameFault) → held ≡ take size (bytes_of old) → bytes_of new ≡ drop size (bytes_of old)
    → length blocks ≡ count → count ≤ 32 → OnOk result (Stands (bits held) blocks (places scan)) → OnOk result (blocks_at (places scan) count size (rest_of at old) ≡ Ok (blocks, rest_of (at + size) new))
component-value scan count size at old new held blocks (Ok u) is rest number few stands =
    blocks-stand scan count size at old held blocks is number few stands ∙ ap (λ (s : Rest). Ok (blocks, s)) (rest-ahead at size old new rest)
component-value scan count size at old new held blocks (Err e) is rest number few stands = tt

pub component-fault : (scan : Scan) (count size at : ℕ) (old : Option (List ℕ)) (held : List ℕ) (result : Result (Unit {0}) FrameFault) → held ≡ take size (bytes_of old)
    → IfErr result (IsHeldFault at (coefficients.component_at count (places scan) (bits held))) → IfErr result (λ e. Fails told_fault e (blocks_at (places scan) count size (rest_of at old)))
component-fault scan count size at old held (Ok u) is found = tt
component-fault scan count size at old held (Err e) is found = blocks-fault (places scan) count size (rest_of at old) held e is found

-- bytes that fill a piece, or all that are left
pub filled : (old new : Option (List ℕ)) (n size : ℕ) (piece : List ℕ) → length piece ≡ size → n ≤ size → Consumes old new (take n piece) × (n < length piece → IsAtEnd new) → IsSome old
    → IsSome new × (take n piece ≡ take size (bytes_of old)) × (bytes_of new ≡ drop size (bytes_of old))
filled None new n size piece l le c told = absurd cc
filled (Some xs) None n size piece l le c told = absurd c.0
filled (Some xs) (Some ys) n size piece l le c told =
    let len : length (take n piece) ≡ n = length-take-le n piece (omega arith) in
    elim (cases_lt n size) [
      | inl h ↦
          let none : ys ≡ [] = c.1 (omega arith) in
          let all : xs ≡ take n piece = c.0 ∙ ap (λ zs. take n piece ++ zs) none ∙ append-nil (take n piece) in
          let short : length xs ≤ size = omega (arith, ap length all, len) in
          (refl, sym all ∙ sym (take_all size xs short), none ∙ sym (drop_all size xs short))
      | inr h ↦
          let same : n ≡ size = omega arith in (
            refl,
            sym (ap (take size) c.0 ∙ take_at (take n piece) ys size (len ∙ same)),
            sym (ap (drop size) c.0 ∙ drop_at (take n piece) ys size (len ∙ same)),
          )
    ]

-- ---- alpha values

pub values-value : (n count size : ℕ) (s : Rest) (l : List ℕ) → reading.alpha_at count n (bits (take size s.bytes)) ≡ Ok l → values_at n count size s ≡ Ok (l, ahead size s)
unfolding values_at bind
values-value n count size s l e = rw e refl

pub values-fault : (n count size : ℕ) (s : Rest) (e : AlphaFault) (f : FrameFault) → calls.IsFault e (reading.alpha_at count n (bits (take size s.bytes)))
    → IsAlphaFaultOf e s.place f → Fails told_fault f (values_at n count size s)
unfolding values_at bind
values-fault n count size s wrong.AlphaShort f found is = rw (is, found) refl
values-fault n count size s wrong.AlphaPast f found is = rw (is, found) refl
values-fault n count size s wrong.Failed f found is = rw is tt

-- values for which the bits of a window stand are read from them
pub values-stand : (n count size at : ℕ) (o : Option (List ℕ)) (l : List ℕ) → IsSome o → length l ≡ count
    → values.Stands (bits (bytes_of (first_bytes size o))) l n → values_at n count size (rest_of at o) ≡ Ok (l, ahead size (rest_of at o))
values-stand n count size at o l told number stands =
    let b = bits (bytes_of (first_bytes size o)) in
    let same : b ≡ bits (take size (bytes_of o)) = ap bits (window-bytes size o told) in
    let read : reading.alpha_at (length l) n b ≡ Ok l = alpha_again n b l stands in
    values-value n count size (rest_of at o) l (ap (reading.alpha_at count n) (sym same) ∙ ap (λ k. reading.alpha_at k n b) (sym number) ∙ read)

pub values-window-fault : (n count size at : ℕ) (o : Option (List ℕ)) (k : ℕ) (e : AlphaFault) (f : FrameFault) → IsSome o → k ≡ count
    → calls.IsFault e (reading.alpha_at k n (bits (bytes_of (first_bytes size o)))) → IsAlphaFaultOf e at f → Fails told_fault f (values_at n count size (rest_of at o))
values-window-fault n count size at o k e f told number found is =
    values-fault n count size (rest_of at o) e f
    (subst (λ b. calls.IsFault e (reading.alpha_at count n (bits b))) (window-bytes size o told)
    (subst (λ m. calls.IsFault e (reading.alpha_at m n (bits (bytes_of (first_bytes size o))))) number found)) is

-- ---- offsets

-- the offset after what was read
pub value-at : {X : Type 0} (read : Read FrameKind X) (x : X) (after n m : ℕ) (new : Option (List ℕ)) (s : Rest) → read ≡ Ok (x, rest_of after new) → rest_of after new ≡ ahead n s → s.place + n ≡ m
    → read ≡ Ok (x, rest_of m new)
value-at read x after n m new s e r p = e ∙ ap (λ k. Ok (x, rest_of k new)) (ap (λ (t : Rest). t.place) r ∙ p)
