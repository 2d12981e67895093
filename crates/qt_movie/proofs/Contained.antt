-- Atoms that contain atoms.
use Rattle.std.proofs.Common.{◌≡◌, ℕ, List, [], ◌++◌, length, ap, ◌∙◌, sym, append_assoc}
use Rattle.std.proofs.lemmas.List.{append-nil}
use Rattle.qt_atoms.specs.Written.{atom, ended, begun_atom}
use Rattle.qt_atoms.proofs.WrittenAtoms.{ended_atom}

-- the bytes after an atom with this body is ended
pub contained : (front kind body held : List ℕ) → length kind ≡ 4 → held ≡ begun_atom front kind ++ body → ended held (length front) ≡ front ++ atom kind body
contained front kind body held four e = ap (λ l. ended l (length front)) e ∙ ended_atom front kind body four

-- the same for atoms of one to five parts, appended in order
pub contained_one : (front kind a h0 h1 : List ℕ) (begun : ℕ) → begun ≡ length front → length kind ≡ 4 → h0 ≡ begun_atom front kind → h1 ≡ h0 ++ a → ended h1 begun ≡ front ++ atom kind (a ++ [])
contained_one front kind a h0 h1 begun p four e0 e1 =
    ap (λ n. ended h1 n) p ∙ contained front kind (a ++ []) h1 four (e1 ∙ ap (λ l. l ++ a) e0 ∙ ap (λ l. begun_atom front kind ++ l) (sym (append-nil a)))

pub contained_pair : (front kind a b h0 h1 h2 : List ℕ) (begun : ℕ) → begun ≡ length front → length kind ≡ 4 → h0 ≡ begun_atom front kind → h1 ≡ h0 ++ a → h2 ≡ h1 ++ b → ended h2 begun ≡ front ++ atom kind (a ++ b)
contained_pair front kind a b h0 h1 h2 begun p four e0 e1 e2 =
    let B = begun_atom front kind in
    ap (λ n. ended h2 n) p ∙ contained front kind (a ++ b) h2 four (e2 ∙ ap (λ l. l ++ b) (e1 ∙ ap (λ l. l ++ a) e0) ∙ append_assoc B a b)

pub contained_two : (front kind a b h0 h1 h2 : List ℕ) (begun : ℕ) → begun ≡ length front → length kind ≡ 4 → h0 ≡ begun_atom front kind → h1 ≡ h0 ++ a → h2 ≡ h1 ++ b → ended h2 begun ≡ front ++ atom kind (a ++ (b ++ []))
contained_two front kind a b h0 h1 h2 begun p four e0 e1 e2 =
    contained_pair front kind a b h0 h1 h2 begun p four e0 e1 e2 ∙ ap (λ l. front ++ atom kind (a ++ l)) (sym (append-nil b))

pub contained_three : (front kind a b c h0 h1 h2 h3 : List ℕ) (begun : ℕ) → begun ≡ length front → length kind ≡ 4 → h0 ≡ begun_atom front kind → h1 ≡ h0 ++ a → h2 ≡ h1 ++ b → h3 ≡ h2 ++ c
    → ended h3 begun ≡ front ++ atom kind (a ++ (b ++ (c ++ [])))
contained_three front kind a b c h0 h1 h2 h3 begun p four e0 e1 e2 e3 =
    contained_pair front kind (a ++ b) c h0 h2 h3 begun p four e0 (e2 ∙ ap (λ l. l ++ b) e1 ∙ append_assoc h0 a b) e3
    ∙ ap (λ l. front ++ atom kind l) (append_assoc a b c ∙ ap (λ l. a ++ (b ++ l)) (sym (append-nil c)))

pub contained_four : (front kind a b c d h0 h1 h2 h3 h4 : List ℕ) (begun : ℕ) → begun ≡ length front → length kind ≡ 4 → h0 ≡ begun_atom front kind → h1 ≡ h0 ++ a → h2 ≡ h1 ++ b → h3 ≡ h2 ++ c → h4 ≡ h3 ++ d
    → ended h4 begun ≡ front ++ atom kind (a ++ (b ++ (c ++ (d ++ []))))
contained_four front kind a b c d h0 h1 h2 h3 h4 begun p four e0 e1 e2 e3 e4 =
    contained_three front kind (a ++ b) c d h0 h2 h3 h4 begun p four e0 (e2 ∙ ap (λ l. l ++ b) e1 ∙ append_assoc h0 a b) e3 e4
    ∙ ap (λ l. front ++ atom kind l) (append_assoc a b (c ++ (d ++ [])))

pub contained_five : (front kind a b c d e h0 h1 h2 h3 h4 h5 : List ℕ) (begun : ℕ) → begun ≡ length front → length kind ≡ 4 → h0 ≡ begun_atom front kind → h1 ≡ h0 ++ a → h2 ≡ h1 ++ b → h3 ≡ h2 ++ c → h4 ≡ h3 ++ d → h5 ≡ h4 ++ e
    → ended h5 begun ≡ front ++ atom kind (a ++ (b ++ (c ++ (d ++ (e ++ [])))))
contained_five front kind a b c d e h0 h1 h2 h3 h4 h5 begun p four e0 e1 e2 e3 e4 e5 =
    contained_four front kind (a ++ b) c d e h0 h2 h3 h4 h5 begun p four e0 (e2 ∙ ap (λ l. l ++ b) e1 ∙ append_assoc h0 a b) e3 e4 e5
    ∙ ap (λ l. front ++ atom kind l) (append_assoc a b (c ++ (d ++ (e ++ []))))
