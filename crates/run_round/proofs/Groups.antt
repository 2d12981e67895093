-- The groups of a whole run: each is ready to be written, and together they have all pictures.
use Rattle.std.proofs.Common.{◌≡◌, ℕ, ◌+◌, ◌*◌, ◌<◌, ◌≤◌, None, List, [], ◌∷◌, length, map, arith, sym, ap, subst, ◌∙◌}
use Rattle.std.specs.List.{flat_map, range_with_len, All, AllByRecursion}
use Rattle.std.proofs.lemmas.List.{take_all}
use Rattle.std.proofs.lemmas.List.Elements.{recursion_from_All}
use Rattle.pic_y4m.specs.Frames.{Pictures}
use Rattle.rate_table.specs.Table.{IsTable}
use Rattle.rate_build.specs.Groups.{group_at}
use Rattle.run_encode.specs.declared.job.Job.{Job}
use Rattle.run_encode.specs.Groups.{IsFrameOf, IsJob, ArePictures, coefficients_in, group_count, table_in}
use Rattle.run_encode.specs.Encoding.{Group, IsCoded, AreFirst, all_frames}
use Rattle.run_encode.proofs.Below.{LawsOfGroups}
use Rattle.run_encode.proofs.Numbered.{count-all, count-few}
use Rattle.run_encode.proofs.Ready.{all-ready}
use Rattle.run_encode.proofs.Tabled.{here-frames, here-some, here-table}
use Rattle.run_encode.proofs.Whole.{GroupIs, all-number, frames-count, front-is, bound, each-holds, below}
use Rattle.run_round.proofs.Parts.{IsReadyGroup}

module _ (j : Job) (is : IsJob j) (ps : Pictures) (are : ArePictures j.head ps) (b : LawsOfGroups) where
  group-is-ready : (k : ℕ) (g : Group) → k < group_count j.group ps → g.pictures ≡ group_at j.group ps.pictures k → IsCoded j g → GroupIs j g → IsReadyGroup j g
  group-is-ready k g lt e coded holds =
      let of : AllByRecursion (IsFrameOf j) (map (coefficients_in j) g.pictures) =
      subst (λ l. AllByRecursion (IsFrameOf j) (map (coefficients_in j) l)) (sym e) (here-frames b.of_layout b.group_table j is ps are k) in
      record {
        frames = of;
        ready = all-ready j is b.coded b.indices (map (coefficients_in j) g.pictures) of;
        choice = coded.best.choice;
        some = let n = here-some b.of_layout b.group_table j is ps are k lt in omega (arith, ap length e, n);
        table = subst (λ l. IsTable (table_in j l)) (sym e) (here-table b.of_layout b.group_table j is ps are k lt);
        good = holds.good;
      }

  all-are : (k : ℕ) (gs : List Group) → k + length gs ≤ group_count j.group ps → map (λ g. g.pictures) gs ≡ map (group_at j.group ps.pictures) (range_with_len k (length gs))
      → AllByRecursion (IsCoded j) gs → AllByRecursion (GroupIs j) gs → AllByRecursion (IsReadyGroup j) gs
  all-are k [] le pics coded holds = tt
  all-are k (g ∷ gs) le pics coded holds =
      let first : g.pictures ≡ group_at j.group ps.pictures k = cc in
      let others : map (λ g. g.pictures) gs ≡ map (group_at j.group ps.pictures) (range_with_len (k + 1) (length gs)) = cc in
      (group-is-ready k g (omega (arith, le)) first coded.0 holds.0, all-are (k + 1) gs (omega (arith, le)) others coded.1 holds.1)

  module _ (coded : List Group) (first : AreFirst j ps coded) where
    pub all-are-ready : AllByRecursion (IsReadyGroup j) coded
    all-are-ready = all-are 0 coded (let h = first.few in omega (arith, h)) first.pictures (recursion_from_All (IsCoded j) coded first.each) (each-holds j is ps are b coded first)

    -- the frames are valid frames of a movie
    pub few-frames : length (all_frames j coded) ≤ 1000000
    few-frames = let few = are.few in omega (arith, frames-count j is ps are b coded first, few)

    pub small-frames : All (λ frame. length frame ≤ 4294967286) (all_frames j coded)
    small-frames = below j is ps are b coded first 4294967286 (let h = is.budget in omega (arith, h))

    pub few-records : length coded ≤ 1000000
    few-records =
        let few = are.few in
        let n = count-few j.group (length coded) (length ps.pictures) is.some_group (bound j is ps are b coded first) in
        omega (arith, few, n)

    module _ (count : length coded ≡ group_count j.group ps) (end : ps.fault ≡ None) where
      -- the groups have all pictures
      pub all-pictures : flat_map (λ g. g.pictures) coded ≡ ps.pictures
      all-pictures =
          let h = count-all j.group (length ps.pictures) ps.fault is.some_group end in
          let le : length ps.pictures ≤ j.group * length coded = subst (λ n. length ps.pictures ≤ j.group * n) (sym count) h in
          front-is j is ps are b coded first ∙ take_all (j.group * length coded) ps.pictures le

      -- and a frame for each of them
      pub frames-number : length (all_frames j coded) ≡ length ps.pictures
      frames-number = all-number j coded ∙ ap length all-pictures
