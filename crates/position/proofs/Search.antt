-- What a search examines, and how it compares.
--   names_other, names_number   what the comparison of a record comes to
--   names_is                    five bytes are a record's identifier where its address and number are theirs
--   search_off                  a track that the image has not
--   search_here                 the count area that comes next
--   search_twice, search_zero   at the index: for the second time, and for the first
--   search_lost                 a track has a first record, so that one is found there
--   examines_equal, examines_unequal     a search by how it compares
use Rattle.std.specs.Prelude.{Some, None}
use Prim.Native.Nat.{ℕ, ◌+◌, ◌*◌, ◌/◌, ◌%◌, ◌<◌, ◌≤◌}
use native.Mathlib.Omega.{arith}
use mathlib.Core.Path.{◌≡◌, refl, ap, sym, ◌∙◌}
use mathlib.Core.Bool.{Bool, true, false, ◌&&◌}
use mathlib.Core.List.{List, [], ◌∷◌}
use lib.Dec.{eqb}
use lib.ListN.{length}
use borrow.Author.Tests.{eqb-true, eqb-false, lt-ltb, le-ltb, eq-eqb, ne_eqb}
use Rattle.base.specs.Choice.{pick, opt}
use Rattle.base.specs.Bytes.{two}
use Rattle.base.proofs.Choice.{split}
use Rattle.address.specs.declared.Address.{Address}
use Rattle.address.specs.Order.{same}
use Rattle.pack.specs.declared.Place.{Place}
use Rattle.pack.specs.Pack.{Track, pack_of, track_in}
use Rattle.pack.specs.Places.{record_at, record_from, Within}
use Rattle.drive.specs.Drive as Abstract
use Rattle.drive.specs.Drive.{turn, passes_index, address_bytes, identifier, same_bytes}
use Rattle.drive.specs.Step as Step
use Rattle.position.specs.declared.Drive.{Drive}
use Rattle.position.specs.declared.Spot.{Spot}
use Rattle.position.specs.declared.Examined.TheVariants.{Equal, Unequal}
use Rattle.position.specs.Standing.{drive_of, OnTrack, Standing, Examines}
use Rattle.position.specs.Spots.{Spotted, names, ExaminesAt, Comes}
use Rattle.position.proofs.Image.{begun}
use Rattle.position.proofs.Places.{spot_at, spotted, ended}

-- ---- the comparison

-- two bytes are those of a number
pair_same : (a b n : ℕ) (z : Bool) → b < 256 → (eqb a (n / 256) && (eqb b (n % 256) && z)) ≡ (eqb n (a * 256 + b) && z)
pair_same a b n z h =
    split (eqb n (a * 256 + b))
    (λ e.
    let g : n ≡ a * 256 + b = eqb-true _ _ e in
    rw (e, eq-eqb a (n / 256) (omega arith), eq-eqb b (n % 256) (omega arith)))
    (λ e.
    let g : n ≡ a * 256 + b → ⊥ = eqb-false _ _ e in
    rw e (split (eqb a (n / 256)) (λ q. let f : a ≡ n / 256 = eqb-true _ _ q in rw (q, ne_eqb b (n % 256) (λ k. g (omega arith)))) (λ q. rw q)))

last_same : (a b : ℕ) → (eqb a b && true) ≡ eqb b a
last_same a b = split (eqb b a) (λ e. rw (e, eq-eqb a b (sym (eqb-true b a e)))) (λ e. rw (e, ne_eqb a b (λ q. eqb-false b a e (sym q))))

and_both : (a b c : Bool) → (a && (b && c)) ≡ ((a && b) && c)
and_both true b c = refl
and_both false b c = refl

pub names_is : (image : List ℕ) (p : Place) (b0 b1 b2 b3 b4 : ℕ) → b1 < 256 → b3 < 256
    → same_bytes (b0 ∷ b1 ∷ b2 ∷ b3 ∷ b4 ∷ []) (identifier (record_from image p)) ≡ names (record { cylinder = b0 * 256 + b1; head = b2 * 256 + b3 }) b4 p
unfolding same_bytes identifier address_bytes two record_from names same
names_is image p b0 b1 b2 b3 b4 h g =
    let c = p.at.cylinder in
    let k = p.at.head in
    pair_same b0 b1 c (eqb b2 (k / 256) && (eqb b3 (k % 256) && (eqb b4 p.r && true))) h
    ∙ ap (λ z. eqb c (b0 * 256 + b1) && z) (pair_same b2 b3 k (eqb b4 p.r && true) g ∙ ap (λ z. eqb k (b2 * 256 + b3) && z) (last_same b4 p.r))
    ∙ and_both (eqb c (b0 * 256 + b1)) (eqb k (b2 * 256 + b3)) (eqb p.r b4)

module _ (a : Address) (r : ℕ) (p : Place) where
  pub names_other : same p.at a ≡ false → false ≡ names a r p
  unfolding names
  names_other e = rw e

  pub names_number : same p.at a ≡ true → eqb p.r r ≡ names a r p
  unfolding names
  names_number e = rw e

-- ---- what is examined

module _ (image : List ℕ) (d : Drive) where
  pub search_off : track_in (pack_of image) d.at ≡ None → Comes image d None
  unfolding Step.plan_search opt
  search_off h = λ g l c st. rw h

  module _ (t : Track) (o : OnTrack image d t) where
    examines_at : (x : Spot) (n : ℕ) → Spotted image t x → turn (length t.records) d.next ≡ x.place
        → pick (passes_index (length t.records) d.next) (d.passes + 1) d.passes ≡ n → n ≤ 1 → ExaminesAt image d x n
    unfolding Step.plan_search Step.examine Step.passes_now opt pick
    examines_at x n s e f h = λ l c st g. rw (o.there, e, f, le-ltb 1 n h, s.is)

    pub search_here : (p : Place) → d.passes ≤ 1 → record_at image d.here ≡ Some p → Within image p → Comes image d (Some (spot_at d.next d.here p, d.passes))
    unfolding turn passes_index pick
    search_here p few h w =
        let s = spotted image t d.next d.here o.ahead p o.near h w in
        let i = lt-ltb d.next (length t.records) s.inside in
        ((t, o, s), examines_at (spot_at d.next d.here p) d.passes s (rw i) (rw i) few, few)

    module _ (h : record_at image d.here ≡ None) where
      pub search_twice : d.passes ≡ 1 → Comes image d None
      unfolding Step.plan_search Step.examine Step.passes_now passes_index opt pick
      search_twice e = λ g l c st. rw (o.there, le-ltb _ _ (ended image t d.next d.here o.ahead h), e)

      module _ (few : d.passes ≤ 1) (e : d.passes ≡ 1 → ⊥) where
        pub search_zero : (p : Place) → record_at image d.records ≡ Some p → Within image p → Comes image d (Some (spot_at 0 d.records p, 1))
        unfolding turn passes_index pick
        search_zero p g w =
            let s = spotted image t 0 d.records o.first p (omega arith) g w in
            let i = le-ltb _ _ (ended image t d.next d.here o.ahead h) in
            let none_yet : d.passes ≡ 0 = omega arith in
            ((t, o, s), examines_at (spot_at 0 d.records p) 1 s (rw i) (rw (i, none_yet)) (omega arith), omega arith)

    pub search_lost : {P : Type 0} → Standing image d → record_at image d.records ≡ None → P
    search_lost s h =
        let a = ended image t 0 d.records o.first h in
        let b = begun s.sound d.at t o.there in
        absurd (omega arith)

-- ---- a search

module _ (image : List ℕ) (d : Drive) (x : Spot) (n : ℕ) (e : ExaminesAt image d x n) (g : List ℕ) (b : Bool) (k : same_bytes g (identifier (record_from image x.parts)) ≡ b) (y : Drive) where
  pub examines_equal : b ≡ true → drive_of y ≡ Abstract.moved_past (drive_of d) x.place true 0 → Examines image d g (Equal y)
  unfolding pick
  examines_equal h q = λ l c st. e l c st g ∙ rw (k, h, ← q)

  pub examines_unequal : b ≡ false → drive_of y ≡ Abstract.moved_past (drive_of d) x.place true n → Examines image d g (Unequal y)
  unfolding pick
  examines_unequal h q = λ l c st. e l c st g ∙ rw (k, h, ← q)
