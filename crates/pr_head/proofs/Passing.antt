-- Skipping bytes in parts.
use Rattle.std.proofs.Common.{◌≡◌, ℕ, ◌+◌, ◌-◌, ◌<◌, ◌≤◌, inl, inr, length, drop, Ok, Err, refl, sym, ap, ◌∙◌, subst, arith, length-drop}
use Rattle.std.proofs.lemmas.Bool.{lt-ltb, le-ltb, cases_lt}
use Rattle.std.proofs.lemmas.List.{drop-drop}
use Rattle.pw_outside.specs.Reading.{Rest, Read, Fails}
use Rattle.pw_outside.proofs.Chains.{fails-whole}
use Rattle.pr_head.specs.declared.fault.FrameKind.{FrameKind}
use Rattle.pr_head.specs.declared.fault.FrameFault.{FrameFault}
use Rattle.pr_head.specs.Faults.{told_fault}
use Rattle.pr_head.specs.inner.Steps.{passed}

-- n bytes further
abbrev pub ahead : ℕ → Rest → Rest
ahead n s = record { place = s.place + n; bytes = drop n s.bytes }

pub same_rest : (s t : Rest) → s.place ≡ t.place → s.bytes ≡ t.bytes → s ≡ t
same_rest s t p b = λ j. record { place = p j; bytes = b j }

pub ahead-ahead : (m n : ℕ) (s : Rest) → ahead m (ahead n s) ≡ ahead (n + m) s
ahead-ahead m n s = same_rest _ _ (omega arith) (drop-drop m n s.bytes)

pub ahead-none : (s : Rest) → ahead 0 s ≡ s
ahead-none s = same_rest _ _ (omega arith) refl

pub passed-whole : (kind : FrameKind) (at n : ℕ) (s : Rest) → n ≤ length s.bytes → passed kind at n s ≡ Ok (tt, ahead n s)
unfolding passed
passed-whole kind at n s h = rw (le-ltb (length s.bytes) n h) refl

pub passed-short : (kind : FrameKind) (at n : ℕ) (s : Rest) → length s.bytes < n → passed kind at n s ≡ Err (record { kind = kind; place = at })
unfolding passed
passed-short kind at n s h = rw (lt-ltb (length s.bytes) n h) refl

-- a part, and then the rest
passed-two : (kind : FrameKind) (at left part : ℕ) (s : Rest) → part ≤ left → part ≤ length s.bytes → passed kind at (left - part) (ahead part s) ≡ passed kind at left s
passed-two kind at left part s le h = elim (cases_lt (length s.bytes) left) [
  | inl short ↦ passed-short kind at (left - part) (ahead part s) (omega (arith, length-drop part s.bytes)) ∙ sym (passed-short kind at left s short)
  | inr whole ↦
      let e : part + (left - part) ≡ left = omega arith in
      passed-whole kind at (left - part) (ahead part s) (omega (arith, length-drop part s.bytes))
      ∙ ap (λ (r : Rest). Ok (tt, r)) (ahead-ahead (left - part) part s ∙ ap (λ k. ahead k s) e)
      ∙ sym (passed-whole kind at left s whole)
]

rest_behind : Read FrameKind (Unit {0}) → Rest → Rest
rest_behind (Ok x) none = x.1
rest_behind (Err e) none = none

same_after : {a b : Rest} (read : Read FrameKind (Unit {0})) → read ≡ Ok (tt, a) → read ≡ Ok (tt, b) → a ≡ b
unfolding rest_behind
same_after {a} {b} read e f = ap (λ (r : Read FrameKind (Unit {0})). rest_behind r a) (sym e ∙ f)

pub passed-more : (kind : FrameKind) (at left part : ℕ) (s after : Rest) (total : Read FrameKind (Unit {0})) → part ≤ left → passed kind at part s ≡ Ok (tt, after)
    → passed kind at left s ≡ total → passed kind at (left - part) after ≡ total
passed-more kind at left part s after total le h so_far = elim (cases_lt (length s.bytes) part) [
  | inl short ↦ absurd (cc (passed-short kind at part s short, h))
  | inr whole ↦
      let same = same_after _ (passed-whole kind at part s whole) h in
      subst (λ r. passed kind at (left - part) r ≡ total) same (passed-two kind at left part s le whole ∙ so_far)
]

pub passed-end : (fault : FrameFault) (kind : FrameKind) (at left part : ℕ) (s : Rest) (total : Read FrameKind (Unit {0})) → part ≤ left
    → Fails told_fault fault (passed kind at part s) → passed kind at left s ≡ total → Fails told_fault fault total
passed-end fault kind at left part s total le told so_far = fails-whole told_fault fault (passed kind at part s) total
    (λ f e. elim (cases_lt (length s.bytes) part) [
      | inl short ↦ sym so_far ∙ passed-short kind at left s (omega arith) ∙ sym (passed-short kind at part s short) ∙ e
      | inr whole ↦ absurd (cc (passed-whole kind at part s whole, e))
    ]) told

pub passed-all : (kind : FrameKind) (at left : ℕ) (s : Rest) (total : Read FrameKind (Unit {0})) → left ≤ 0 → passed kind at left s ≡ total → total ≡ Ok (tt, s)
passed-all kind at left s total le so_far =
    let e : left ≡ 0 = omega arith in
    sym so_far ∙ ap (λ k. passed kind at k s) e ∙ passed-whole kind at 0 s (omega arith) ∙ ap (λ (r : Rest). Ok (tt, r)) (ahead-none s)
