-- The frames' parts of a group's slices and choice.
use Rattle.std.proofs.Common.{◌≡◌, ℕ, ◌+◌, ◌*◌, List, [], ◌∷◌, ◌++◌, length, take, drop, ap, sym, subst, ◌∙◌, take-append-drop}
use Rattle.std.specs.List.{flat_map, AllZip}
use Rattle.std.proofs.lemmas.List.{length-map, take-map, drop-map}
use Rattle.std.proofs.lemmas.List.Sums.{sum_by-append}
use Rattle.pr_geom.specs.declared.layout.Layout.{Layout}
use Rattle.pr_geom.specs.Layout.{slices_of}
use Rattle.pr_geom.specs.Slices.{pictures_of}
use Rattle.rate_table.specs.declared.entry.Entry.{Entry}
use Rattle.rate_table.specs.Table.{IsChoice, size_of, indices}
use Rattle.rate_build.specs.Coefficients.{FrameCoefficients}
use Rattle.rate_build.specs.Coding.{coded_frame}
use Rattle.rate_build.specs.Tables.{entries_of}
use Rattle.rate_build.proofs.Whole.{slices_number}
use Rattle.run_encode.specs.declared.job.Job.{Job}
use Rattle.run_encode.specs.Groups.{header_in, frame_slices, slice_tables, coded_group, IsFrameOf}

pub zip-split : {A B : Type 0} (R : A → B → Type 0) (xs rest : List A) (ys : List B) → AllZip R (xs ++ rest) ys
    → AllZip R xs (take (length xs) ys) × AllZip R rest (drop (length xs) ys)
zip-split R [] rest ys h = (tt, h)
zip-split R (x ∷ xs) rest [] h = absurd h
zip-split R (x ∷ xs) rest (y ∷ ys) h = let t = zip-split R xs rest ys h.1 in ((h.0, t.0), t.1)

module _ (j : Job) where
  pub slices-are : (c : FrameCoefficients) → IsFrameOf j c → length (slice_tables j c) ≡ frame_slices j
  slices-are c is = length-map c.slices (entries_of c.layout.interlace c.alpha j.weights j.lo j.hi) ∙ slices_number c is.of
      ∙ ap (λ (l : Layout). pictures_of l.interlace * length (slices_of l)) is.layout

  -- the first frame's part of a choice, and the rest
  pub part-of : (c : FrameCoefficients) (cs : List FrameCoefficients) (choice : List Entry) → IsFrameOf j c → IsChoice (flat_map (slice_tables j) (c ∷ cs)) choice
      → IsChoice (slice_tables j c) (take (frame_slices j) choice) × IsChoice (flat_map (slice_tables j) cs) (drop (frame_slices j) choice)
  part-of c cs choice is h =
      subst (λ n. IsChoice (slice_tables j c) (take n choice) × IsChoice (flat_map (slice_tables j) cs) (drop n choice)) (slices-are c is)
      (zip-split _ (slice_tables j c) (flat_map (slice_tables j) cs) choice h)

  -- the first frame, and the others
  pub frames-are : (c : FrameCoefficients) (cs : List FrameCoefficients) (choice : List Entry)
      → coded_group j (c ∷ cs) (indices choice) ≡ coded_frame c (header_in j) (indices (take (frame_slices j) choice)) ∷ coded_group j cs (indices (drop (frame_slices j) choice))
  frames-are c cs choice =
      ap (λ is. coded_frame c (header_in j) is ∷ coded_group j cs (drop (frame_slices j) (indices choice))) (take-map (λ (e : Entry). e.index) (frame_slices j) choice)
      ∙ ap (λ is. coded_frame c (header_in j) (indices (take (frame_slices j) choice)) ∷ coded_group j cs is) (drop-map (λ (e : Entry). e.index) (frame_slices j) choice)

  pub sizes-split : (n : ℕ) (choice : List Entry) → size_of choice ≡ size_of (take n choice) + size_of (drop n choice)
  sizes-split n choice = ap size_of (sym (take-append-drop n choice)) ∙ sum_by-append (λ (e : Entry). e.size) (take n choice) (drop n choice)
