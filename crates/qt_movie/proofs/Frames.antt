-- The offsets of the frames of a written movie.
use Rattle.std.proofs.Common.{◌≡◌, ℕ, ◌+◌, List, [], ◌∷◌, ◌++◌, length, map, take, drop, refl, sym, ap, ◌∙◌, arith, append_assoc, length-append}
use Rattle.std.proofs.lemmas.List.{take_at, drop_at, drop-drop}
use Rattle.std.specs.List.{flat_map}
use Rattle.pic_y4m.specs.declared.head.Head.{Head}
use Rattle.qt_atoms.specs.Atoms.{bytes_in}
use Rattle.qt_tables.specs.declared.writer.Extent.{Extent}
use Rattle.qt_movie.specs.MovieBytes.{ftyp_bytes, frame_bytes, extents_from, extents, moov_bytes, movie_bytes}

-- the first frame after some bytes
frame-here : (front frame rest : List ℕ) → bytes_in (length frame) (front ++ (frame_bytes frame ++ rest)) (length front + 8) ≡ frame
frame-here front frame rest =
    let F = front ++ (frame_bytes frame ++ rest) in
    let here : drop (length front) F ≡ frame_bytes frame ++ rest = drop_at front (frame_bytes frame ++ rest) (length front) refl in
    ap (take (length frame)) (sym (drop-drop 8 (length front) F) ∙ ap (drop 8) here) ∙ take_at frame rest (length frame) refl

frames-from : (frames : List (List ℕ)) (front behind : List ℕ)
    → map (λ (e : Extent). bytes_in e.size (front ++ (flat_map frame_bytes frames ++ behind)) e.at) (extents_from (length front) (map length frames)) ≡ frames
frames-from [] front behind = refl
frames-from (frame ∷ frames) front behind =
    let A = frame_bytes frame in
    let rest = flat_map frame_bytes frames in
    let F = front ++ ((A ++ rest) ++ behind) in
    let G = (front ++ A) ++ (rest ++ behind) in
    let e0 : F ≡ front ++ (A ++ (rest ++ behind)) = ap (λ l. front ++ l) (append_assoc A rest behind) in
    let e : F ≡ G = e0 ∙ sym (append_assoc front A (rest ++ behind)) in
    let len : length (front ++ A) ≡ length front + (8 + length frame) = omega (arith, length-append front A) in
    let first : bytes_in (length frame) F (length front + 8) ≡ frame = ap (λ f. bytes_in (length frame) f (length front + 8)) e0 ∙ frame-here front frame (rest ++ behind) in
    let others : map (λ (x : Extent). bytes_in x.size F x.at) (extents_from (length front + (8 + length frame)) (map length frames)) ≡ frames =
    ap (λ f. map (λ (x : Extent). bytes_in x.size f x.at) (extents_from (length front + (8 + length frame)) (map length frames))) e
    ∙ ap (λ p. map (λ (x : Extent). bytes_in x.size G x.at) (extents_from p (map length frames))) (sym len)
    ∙ frames-from frames (front ++ A) behind in
    ap (λ b. b ∷ map (λ (x : Extent). bytes_in x.size F x.at) (extents_from (length front + (8 + length frame)) (map length frames))) first ∙ ap (λ l. frame ∷ l) others

pub frames_lie : (head : Head) (frames : List (List ℕ)) → map (λ (e : Extent). bytes_in e.size (movie_bytes head frames) e.at) (extents (map length frames)) ≡ frames
frames_lie head frames = frames-from frames ftyp_bytes (moov_bytes head (extents (map length frames)))
