-- Nested atoms in a file.
use Rattle.std.proofs.Common.{◌≡◌, ℕ, ◌+◌, Bool, false, List, ◌∷◌, ◌++◌, length, take, drop, None, sym, ap, ◌∙◌, arith, append_assoc, length-append}
use Rattle.std.specs.List.{AllByRecursion}
use Rattle.std.specs.Int.{w32, to_be_bytes}
use Rattle.std.proofs.lemmas.List.{drop_at, drop-drop}
use Rattle.qt_atoms.specs.declared.atom.Atom.{Atom}
use Rattle.qt_atoms.specs.Atoms.{Walk, walk, children, bytes_in}
use Rattle.qt_atoms.specs.Written.{Node, atom_of, IsNode, placed}
use Rattle.qt_atoms.proofs.WrittenAtoms.{walk_written}
use Rattle.qt_movie.specs.Bodies.{node, nodes_bytes}

-- the file has this atom at this offset
pub record Stands (file : List ℕ) (at : ℕ) (n : Node) : Type 0 where
  pub front : List ℕ
  pub behind : List ℕ
  pub whole : file ≡ front ++ (atom_of n ++ behind)
  pub place : length front ≡ at

-- the file has these consecutive atoms from this offset on
pub record StandAll (file : List ℕ) (at : ℕ) (nodes : List Node) : Type 0 where
  pub front : List ℕ
  pub behind : List ℕ
  pub whole : file ≡ front ++ (nodes_bytes nodes ++ behind)
  pub place : length front ≡ at

-- the atom at an offset
abbrev pub atom_here : ℕ → Node → Atom
atom_here at n = record { kind = n.kind; at = at; body = at + 8; end = at + (length n.body + 8) }

pub first_stands : (file : List ℕ) (at : ℕ) (n : Node) (nodes : List Node) → StandAll file at (n ∷ nodes) → Stands file at n
first_stands file at n nodes s = record {
  front = s.front;
  behind = nodes_bytes nodes ++ s.behind;
  whole = s.whole ∙ ap (λ l. s.front ++ l) (append_assoc (atom_of n) (nodes_bytes nodes) s.behind);
  place = s.place;
}

pub others_stand : (file : List ℕ) (at : ℕ) (n : Node) (nodes : List Node) → length n.kind ≡ 4 → StandAll file at (n ∷ nodes) → StandAll file (at + (length n.body + 8)) nodes
others_stand file at n nodes four s =
    let A = atom_of n in
    let rest = nodes_bytes nodes in
    record {
      front = s.front ++ A;
      behind = s.behind;
      whole = s.whole ∙ ap (λ l. s.front ++ l) (append_assoc A rest s.behind) ∙ sym (append_assoc s.front A (rest ++ s.behind));
      place = omega (arith, length-append s.front A, length-append n.kind n.body, four, s.place);
    }

-- the contents of an atom follow its head
pub inside : (file : List ℕ) (at : ℕ) (kind : List ℕ) (nodes : List Node) → length kind ≡ 4 → Stands file at (node kind (nodes_bytes nodes)) → StandAll file (at + 8) nodes
inside file at kind nodes four s =
    let body = nodes_bytes nodes in
    let H = to_be_bytes w32 (length body + 8) ++ kind in
    record {
      front = s.front ++ H;
      behind = s.behind;
      whole = s.whole ∙ ap (λ l. s.front ++ (to_be_bytes w32 (length body + 8) ++ l)) (append_assoc kind body s.behind) ∙ sym (append_assoc s.front H (body ++ s.behind));
      place = omega (arith, length-append s.front H, four, s.place);
    }

-- the bytes after the head of an atom
pub body_here : (file : List ℕ) (at : ℕ) (n : Node) → length n.kind ≡ 4 → (s : Stands file at n) → drop (at + 8) file ≡ n.body ++ s.behind
body_here file at n four s =
    let H = to_be_bytes w32 (length n.body + 8) ++ n.kind in
    let len : length (s.front ++ H) ≡ at + 8 = omega (arith, length-append s.front H, four, s.place) in
    let whole : file ≡ (s.front ++ H) ++ (n.body ++ s.behind) =
    s.whole ∙ ap (λ l. s.front ++ (to_be_bytes w32 (length n.body + 8) ++ l)) (append_assoc n.kind n.body s.behind) ∙ sym (append_assoc s.front H (n.body ++ s.behind)) in
    ap (drop (at + 8)) whole ∙ drop_at (s.front ++ H) (n.body ++ s.behind) (at + 8) len

-- the bytes of a field of it
pub field_here : (file rest : List ℕ) (place n j : ℕ) → drop place file ≡ rest → bytes_in n file (place + j) ≡ take n (drop j rest)
field_here file rest place n j e = ap (take n) (sym (drop-drop j place file) ∙ ap (drop j) e)

-- a walk over these atoms of a file meets exactly these
pub walk_met : (file : List ℕ) (at end : ℕ) (top : Bool) (nodes : List Node) → AllByRecursion IsNode nodes → StandAll file at nodes → end ≡ at + length (nodes_bytes nodes)
    → walk file at end top ≡ record { atoms = placed at nodes; bad = None }
walk_met file at end top nodes h s e =
    let F = s.front ++ (nodes_bytes nodes ++ s.behind) in
    ap (λ f. walk f at end top) s.whole
    ∙ ap (λ p. walk F p end top) (sym s.place)
    ∙ walk_written nodes s.front s.behind end top h (e ∙ ap (λ p. p + length (nodes_bytes nodes)) (sym s.place))
    ∙ ap (λ p. (let w : Walk = record { atoms = placed p nodes; bad = None } in w)) s.place

-- the children of an atom of a file
pub children_met : (file : List ℕ) (at : ℕ) (kind : List ℕ) (nodes : List Node) → length kind ≡ 4 → AllByRecursion IsNode nodes → Stands file at (node kind (nodes_bytes nodes))
    → children file (atom_here at (node kind (nodes_bytes nodes))) ≡ record { atoms = placed (at + 8) nodes; bad = None }
children_met file at kind nodes four h s =
    walk_met file (at + 8) (at + (length (nodes_bytes nodes) + 8)) false nodes h (inside file at kind nodes four s) (omega arith)
