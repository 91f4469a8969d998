-- What commands come to, from the tests that the code makes.
--   next_low                        the CCW behind one whose address a CSW can show
--   other-count .. count-above      a control or search command's count
--   no-home .. no-read-multitrack   reads and multitrack commands are none of these
--   word_is                         a number of two bytes
--   argument_in                     a command without program check has its argument inside its area
--   noop_rejected, noop_done        a no-operation
--   seek-first .. seek-done         a seek, by the track that it names
--   mask-second .. mask_done        a set file mask, by its byte
--   search-equal .. search-passed   a search, by what it examined
--   seek-uncounted .. search-uncounted    a wrong count or CD
--   noop_performs, unlisted_performs      the commands without argument
--   seek-performs .. search-performs      those with one
use Rattle.std.specs.Prelude.{Some}
use Prim.Native.Nat.{ℕ, ◌+◌, ◌-◌, ◌*◌, ◌<◌}
use native.Mathlib.Omega.{arith}
use mathlib.Core.Path.{◌≡◌, refl, ap, sym, ◌∙◌}
use mathlib.Core.Bool.{Bool, true, false, ◌&&◌, ◌||◌, not}
use mathlib.Core.List.{List, [], ◌∷◌}
use lib.Dec.{eqb, ltb}
use lib.ListN.{length, get_or}
use borrow.Author.Tests.{eqb-true, eq-eqb, ne_eqb}
use Rattle.base.specs.Bytes.{be16_at}
use Rattle.base.proofs.Choice.{pick_true, pick_false, and_left, and_second, never}
use Rattle.base.proofs.Bytes.{length_part}
use Rattle.address.specs.declared.Address.{Address}
use Rattle.address.specs.Order.{on_pack}
use Rattle.pack.specs.Pack.{pack_of}
use Rattle.channel.specs.declared.Ccw.{Ccw}
use Rattle.channel.specs.declared.Location.{Location}
use Rattle.channel.specs.declared.Location.TheVariants.{Chain, Restart}
use Rattle.channel.specs.Ccw.{Lent, address_of, next, chains_data, arguments_at, arguments_base, argument}
use Rattle.location.specs.Low.{Low}
use Rattle.drive.specs.declared.Read.{Read}
use Rattle.drive.specs.declared.Command.{Command}
use Rattle.drive.specs.declared.Command.TheVariants.{NoOperation, Seek, SetMask, SetSector, SearchId, ReadHome, ReadRecord, SearchIdMultitrack, ReadMultitrack, Unlisted}
use Rattle.drive.specs.Arguments.{ArgumentIn, ArgumentByte}
use Rattle.drive.specs.Drive as Abstract
use Rattle.drive.specs.Step as Step
use Rattle.drive.proofs.Arguments.{chain_ends, restart_ends, seek_in, mask_in, sector_in, search_in}
use Rattle.position.specs.declared.Drive.{Drive}
use Rattle.position.specs.declared.Examined.{Examined}
use Rattle.position.specs.declared.Examined.TheVariants.{Equal, Unequal, Passed}
use Rattle.position.specs.Standing.{drive_of, search_plan, Examines}
use Rattle.command.specs.declared.Answer.{Answer}
use Rattle.command.specs.Answer.{Answers}
use Rattle.control.specs.Control.{Plans, ArgumentWord, Seeks, Performs, PerformsAlways, moveless, argues}

-- ---- tests

next_address : (k : Location) → address_of (next k) ≡ address_of k + 8
unfolding address_of next
next_address (Chain a) = refl
next_address (Restart a) = omega arith

pub next_low : (l m : Location) → m ≡ next l → Low l → address_of m < 0x20000
next_low l m e h = let q : address_of m ≡ address_of l + 8 = ap address_of e ∙ next_address l in omega arith

and_first : {a : Bool} (b : Bool) → a ≡ false → (a && b) ≡ false
and_first b h = rw h

and_both : {a b : Bool} → a ≡ true → b ≡ true → (a && b) ≡ true
and_both h g = rw (h, g)

module _ (c : Ccw) (n : ℕ) where
  pub other_count : (c.count ≡ n → ⊥) → false ≡ (eqb c.count n && not (chains_data c))
  other_count h = rw (ne_eqb _ _ h)

  pub same_count : {b : Bool} → c.count ≡ n → b ≡ chains_data c → not b ≡ (eqb c.count n && not (chains_data c))
  same_count h e = rw (eq-eqb _ _ h, e)

  count_is : (eqb c.count n && not (chains_data c)) ≡ true → c.count ≡ n
  count_is h = eqb-true _ _ (and_left _ _ h)

  pub count_above : (k : ℕ) → (eqb c.count n && not (chains_data c)) ≡ true → k < n → k < c.count
  count_above k h g = let e = count_is h in omega arith

pub no_home : {P : Type 0} → moveless ReadHome ≡ true → P
unfolding moveless
no_home h = never h

pub no_record : {P : Type 0} (k : Read) → moveless (ReadRecord k) ≡ true → P
unfolding moveless
no_record k h = never h

pub no_search_multitrack : {P : Type 0} → moveless SearchIdMultitrack ≡ true → P
unfolding moveless
no_search_multitrack h = never h

pub no_read_multitrack : {P : Type 0} (k : Read) → moveless (ReadMultitrack k) ≡ true → P
unfolding moveless
no_read_multitrack k h = never h

pub word_is : {a b x y : ℕ} → a ≡ x → b ≡ y → a * 256 + b ≡ x * 256 + y
word_is h g = rw (h, g)

pub argument_in : (p : Lent) (l : Location) (size : ℕ) (c : Ccw) (k : Command) → Step.sound p l size c k ≡ true → argues k ≡ true
    → ArgumentIn p.arguments p.restart_arguments l c
unfolding argues
argument_in p l size c Seek h g = seek_in p l size c h
argument_in p l size c SetMask h g = mask_in p l size c h
argument_in p l size c SetSector h g = sector_in p l size c h
argument_in p l size c SearchId h g = search_in p l size c h
argument_in p l size c NoOperation h g = never g
argument_in p l size c Unlisted h g = never g
argument_in p l size c ReadHome h g = never g
argument_in p l size c (ReadRecord k) h g = never g
argument_in p l size c SearchIdMultitrack h g = never g
argument_in p l size c (ReadMultitrack k) h g = never g

abbrev track : ℕ → ℕ → Address
track u v = record { cylinder = u; head = v }

-- ---- plans

module _ (l : Location) (c : Ccw) (d : Abstract.Drive) (r : Answer) where
  uncounted : (n : ℕ) (plan : List ℕ → Step.Plan) → (eqb c.count n && not (chains_data c)) ≡ false → Answers (Step.refusal Step.rejected l c d) r
      → Plans (λ st. Step.counted l c d st n (plan st)) r
  unfolding Step.counted Step.refuse
  uncounted n plan h e = λ st. pick_false _ _ h ∙ ap Step.answer (e st)

  done_with : (to to' : Location) (x e : Abstract.Drive) → to' ≡ to → x ≡ e → Answers (Step.onward l to' c 0 x) r → Plans (λ st. Step.done l c d st to e) r
  unfolding Step.done
  done_with to to' x e h g k = λ st.
      ap Step.answer (ap (λ q. Step.onward l q c 0 e st) (sym h) ∙ ap (λ q. Step.onward l to' c 0 q st) (sym g) ∙ k st)

  pub noop_rejected : chains_data c ≡ true → Answers (Step.refusal Step.rejected l c d) r → Plans (Step.plan_no_operation l c d) r
  unfolding Step.plan_no_operation Step.refuse
  noop_rejected h e = λ st. pick_true _ _ h ∙ ap Step.answer (e st)

  pub noop_done : {to : Location} {x : Abstract.Drive} → chains_data c ≡ false → to ≡ next l → x ≡ Abstract.at_index d.at d.mask
      → Answers (Step.onward l to c c.count x) r → Plans (Step.plan_no_operation l c d) r
  unfolding Step.plan_no_operation
  noop_done {to} {x} h g f e = λ st.
      pick_false _ _ h
      ∙ ap Step.answer (ap (λ q. Step.onward l q c c.count (Abstract.at_index d.at d.mask) st) (sym g) ∙ ap (λ q. Step.onward l to c c.count q st) (sym f) ∙ e st)

  module _ (last n : ℕ) (a : Address) where
    pub seek_first : (n ≡ 0 → ⊥) → Answers (Step.refusal Step.rejected l c d) r → Seeks last n a l c d r
    unfolding Step.plan_seek Step.refuse
    seek_first h e = λ g z y st. pick_false _ _ (and_first _ (ne_eqb _ _ (λ q. h (sym z ∙ q)))) ∙ ap Step.answer (e st)

    pub seek_off : on_pack last a ≡ false → Answers (Step.refusal Step.rejected l c d) r → Seeks last n a l c d r
    unfolding Step.plan_seek Step.refuse
    seek_off h e = λ g z y st. pick_false _ _ (and_second (eqb (be16_at g 0) 0) (ap (λ q. on_pack last q) y ∙ h)) ∙ ap Step.answer (e st)

    module _ (zero : n ≡ 0) (on : on_pack last a ≡ true) where
      pub seek_protected : Step.protects d.mask ≡ true → Answers (Step.refusal Step.protected l c d) r → Seeks last n a l c d r
      unfolding Step.plan_seek Step.refuse
      seek_protected h e = λ g z y st.
          pick_true _ _ (and_both (eq-eqb _ _ (z ∙ zero)) (ap (λ q. on_pack last q) y ∙ on)) ∙ pick_true _ _ h ∙ ap Step.answer (e st)

      pub seek_done : {to : Location} {x : Abstract.Drive} → Step.protects d.mask ≡ false → to ≡ next l → x ≡ Abstract.at_index a d.mask
          → Answers (Step.onward l to c 0 x) r → Seeks last n a l c d r
      unfolding Step.plan_seek
      seek_done h f k e = λ g z y st.
          pick_true _ _ (and_both (eq-eqb _ _ (z ∙ zero)) (ap (λ q. on_pack last q) y ∙ on))
          ∙ pick_false _ _ h
          ∙ done_with _ _ _ _ f (k ∙ ap (λ q. Abstract.at_index q d.mask) (sym y)) e st

  module _ (m : ℕ) where
    pub mask_second : Step.is_set d.mask ≡ true → Answers (Step.refusal Step.rejected l c d) r → Plans (λ st. Step.plan_mask l c d st m) r
    unfolding Step.plan_mask Step.refuse
    mask_second h e = λ st. pick_false _ _ (and_first _ (ap not h)) ∙ ap Step.answer (e st)

    pub mask_wrong : Step.settable m ≡ false → Answers (Step.refusal Step.rejected l c d) r → Plans (λ st. Step.plan_mask l c d st m) r
    unfolding Step.plan_mask Step.refuse
    mask_wrong h e = λ st. pick_false _ _ (and_second (not (Step.is_set d.mask)) h) ∙ ap Step.answer (e st)

    pub mask_done : {to : Location} {x : Abstract.Drive} → Step.is_set d.mask ≡ false → Step.settable m ≡ true → to ≡ next l → x ≡ Abstract.at_index d.at (Some m)
        → Answers (Step.onward l to c 0 x) r → Plans (λ st. Step.plan_mask l c d st m) r
    unfolding Step.plan_mask
    mask_done h g f k e = λ st. pick_true _ _ (and_both (ap not h) g) ∙ done_with _ _ _ _ f k e st

  -- ---- a search

  pub search_equal : {to mid : Location} (e : Drive) → mid ≡ next l → to ≡ next mid → Answers (Step.onward l to c 0 (drive_of e)) r
      → Plans (λ st. search_plan l c d st (Equal e)) r
  search_equal e g h k = done_with _ _ _ _ (h ∙ ap next g) refl k

  pub search_unequal : {to : Location} (e : Drive) → to ≡ next l → Answers (Step.onward l to c 0 (drive_of e)) r → Plans (λ st. search_plan l c d st (Unequal e)) r
  search_unequal e h k = done_with _ _ _ _ h refl k

  pub search_passed : Answers (Step.refusal Step.not_found l c d) r → Plans (λ st. search_plan l c d st Passed) r
  unfolding Step.refuse
  search_passed e = λ st. ap Step.answer (e st)

  -- ---- with arguments

  module _ (s t image : List ℕ) where
    pub seek_uncounted : (last : ℕ) → (eqb c.count 6 && not (chains_data c)) ≡ false → Answers (Step.refusal Step.rejected l c d) r
        → Performs last s t image l c Seek d r
    unfolding Step.perform
    seek_uncounted last h e = λ p st f g. uncounted 6 (λ q. Step.plan_seek l c d q last (argument p l c)) h e st

    pub mask_uncounted : (eqb c.count 1 && not (chains_data c)) ≡ false → Answers (Step.refusal Step.rejected l c d) r → PerformsAlways s t image l c SetMask d r
    unfolding Step.perform
    mask_uncounted h e = λ last p st f g. uncounted 1 (λ q. Step.plan_mask l c d q (get_or (argument p l c) 0 0)) h e st

    pub sector_uncounted : (eqb c.count 1 && not (chains_data c)) ≡ false → Answers (Step.refusal Step.rejected l c d) r → PerformsAlways s t image l c SetSector d r
    unfolding Step.perform
    sector_uncounted h e = λ last p st f g. uncounted 1 (λ q. Step.plan_sector l c d q (get_or (argument p l c) 0 0)) h e st

    pub search_uncounted : (eqb c.count 5 && not (chains_data c)) ≡ false → Answers (Step.refusal Step.rejected l c d) r → PerformsAlways s t image l c SearchId d r
    unfolding Step.perform
    search_uncounted h e = λ last p st f g. uncounted 5 (λ q. Step.plan_search l c d q (pack_of image) (argument p l c)) h e st

    pub noop_performs : Plans (Step.plan_no_operation l c d) r → PerformsAlways s t image l c NoOperation d r
    unfolding Step.perform
    noop_performs h = λ last p st f g. h st

    pub unlisted_performs : Answers (Step.refusal Step.rejected l c d) r → PerformsAlways s t image l c Unlisted d r
    unfolding Step.perform Step.refuse
    unlisted_performs h = λ last p st f g. ap Step.answer (h st)

    pub seek_performs : (last n y z : ℕ) → (eqb c.count 6 && not (chains_data c)) ≡ true → ArgumentWord s t l c 0 n → ArgumentWord s t l c 2 y → ArgumentWord s t l c 4 z
        → Seeks last n (record { cylinder = y; head = z }) l c d r → Performs last s t image l c Seek d r
    unfolding Step.perform Step.counted Step.sought
    seek_performs last n y z h a b k e = λ p st f g.
        pick_true _ _ h ∙ e (argument p l c) (sym (a p f g)) (ap (λ q. track q (be16_at (argument p l c) 4)) (sym (b p f g)) ∙ ap (λ q. track y q) (sym (k p f g))) st

    pub mask_performs : (m : ℕ) → (eqb c.count 1 && not (chains_data c)) ≡ true → ArgumentByte s t l c 0 m → Plans (λ st. Step.plan_mask l c d st m) r
        → PerformsAlways s t image l c SetMask d r
    unfolding Step.perform Step.counted
    mask_performs m h b e = λ last p st f g. pick_true _ _ h ∙ ap (λ q. Step.plan_mask l c d st q) (sym (b p f g)) ∙ e st

    module _ (n : ℕ) (h : (eqb c.count 1 && not (chains_data c)) ≡ true) (b : ArgumentByte s t l c 0 n) where
      pub sector_wrong : (ltb n 128 || eqb n 255) ≡ false → Answers (Step.refusal Step.rejected l c d) r → PerformsAlways s t image l c SetSector d r
      unfolding Step.perform Step.counted Step.plan_sector Step.refuse
      sector_wrong k e = λ last p st f g. pick_true _ _ h ∙ pick_false _ _ (ap (λ q. ltb q 128 || eqb q 255) (sym (b p f g)) ∙ k) ∙ ap Step.answer (e st)

      pub sector_performs : {to : Location} {x : Abstract.Drive} → (ltb n 128 || eqb n 255) ≡ true → to ≡ next l → x ≡ Abstract.at_index d.at d.mask
          → Answers (Step.onward l to c 0 x) r → PerformsAlways s t image l c SetSector d r
      unfolding Step.perform Step.counted Step.plan_sector
      sector_performs k i j e = λ last p st f g.
          pick_true _ _ h ∙ pick_true _ _ (ap (λ q. ltb q 128 || eqb q 255) (sym (b p f g)) ∙ k) ∙ done_with _ _ _ _ i j e st

-- ---- the five bytes of a search

argument_length : (p : Lent) (l : Location) (c : Ccw) → ArgumentIn p.arguments p.restart_arguments l c → length (argument p l c) ≡ c.count
unfolding argument arguments_at arguments_base
argument_length p (Chain a) c h =
    let x = chain_ends p.arguments p.restart_arguments a c h in
    length_part p.arguments (c.address - 0) (c.address - 0 + c.count) (omega arith) ∙ omega arith
argument_length p (Restart a) c h =
    let x = restart_ends p.arguments p.restart_arguments a c h in
    length_part p.restart_arguments (c.address - 0x2000) (c.address - 0x2000 + c.count) (omega arith) ∙ omega arith

five : (g : List ℕ) → length g ≡ 5 → g ≡ get_or g 0 0 ∷ get_or g 1 0 ∷ get_or g 2 0 ∷ get_or g 3 0 ∷ get_or g 4 0 ∷ []
five [] h = absurd (omega arith)
five (a ∷ []) h = absurd (omega arith)
five (a ∷ b ∷ []) h = absurd (omega arith)
five (a ∷ b ∷ c ∷ []) h = absurd (omega arith)
five (a ∷ b ∷ c ∷ d ∷ []) h = absurd (omega arith)
five (a ∷ b ∷ c ∷ d ∷ e ∷ []) h = refl
five (a ∷ b ∷ c ∷ d ∷ e ∷ f ∷ g) h = absurd (omega arith)

module _ (l : Location) (c : Ccw) (d : Drive) (r : Answer) (s t image : List ℕ) where
  pub search_performs : (b0 b1 b2 b3 b4 : ℕ) (x : Examined) → (eqb c.count 5 && not (chains_data c)) ≡ true → ArgumentIn s t l c
      → ArgumentByte s t l c 0 b0 → ArgumentByte s t l c 1 b1 → ArgumentByte s t l c 2 b2 → ArgumentByte s t l c 3 b3 → ArgumentByte s t l c 4 b4
      → Examines image d (b0 ∷ b1 ∷ b2 ∷ b3 ∷ b4 ∷ []) x → Plans (λ st. search_plan l c (drive_of d) st x) r → PerformsAlways s t image l c SearchId (drive_of d) r
  unfolding Step.perform Step.counted
  search_performs b0 b1 b2 b3 b4 x h i a0 a1 a2 a3 a4 e q = λ last p st f g.
      let inside : ArgumentIn p.arguments p.restart_arguments l c = rw (f, g) i in
      let bytes : argument p l c ≡ b0 ∷ b1 ∷ b2 ∷ b3 ∷ b4 ∷ [] =
      five _ (argument_length p l c inside ∙ count_is c 5 h) ∙ rw (a0 p f g, a1 p f g, a2 p f g, a3 p f g, a4 p f g) in
      pick_true _ _ h ∙ ap (λ z. Step.plan_search l c (drive_of d) st (pack_of image) z) bytes ∙ e l c st ∙ q st
