-- The drive at the index of a track.
--   at_start               its state, where the track's records begin at a place or there is none
--   index_on, index_off   it stands there as the search for the track ends
--   index_again           it stands there from any other place on the track
use Rattle.std.specs.Prelude.{Option, Some, None}
use Prim.Native.Nat.{ℕ, ◌<◌}
use native.Mathlib.Omega.{arith}
use mathlib.Core.Path.{◌≡◌, ap, sym, ◌∙◌}
use mathlib.Core.Bool.{Bool, true, false}
use mathlib.Core.List.{List}
use Rattle.address.specs.declared.Address.{Address}
use Rattle.pack.specs.Pack.{track_in}
use Rattle.pack.specs.Places.{TrackFound}
use Rattle.position.specs.declared.Drive.{Drive}
use Rattle.position.specs.Standing.{Sound, Standing}
use Rattle.position.proofs.Image.{pack_is, decoded}

abbrev pub at_start : Address → Bool → ℕ → Option ℕ → Drive
at_start a found at m = record { at = a; found = found; records = at; next = 0; here = at; behind = at; passed = false; passes = 0; mask = m }

never : {P : Type 0} → true ≡ false → P
never e = let z : ◌≡◌ {A = ℕ} 0 1 = cc in absurd (omega arith)

module _ (image : List ℕ) (a : Address) (m : Option ℕ) (w : Sound image) (low : (a.cylinder < 65536) × (a.head < 65536)) where
  pub index_on : (at : ℕ) → TrackFound image a (Some at) → Standing image (at_start a true at m)
  index_on at f =
      let d = decoded w in
      let g = f d.0 d.1 in
      let pack = pack_is image d.0 d.1 in
      record {
        sound = w;
        low = low;
        on = λ _. (
          g.0,
          record {
            there = ap (λ ts. track_in ts a) pack ∙ g.2;
            first = (g.1, g.3, g.4, g.5, pack ∙ g.6);
            ahead = (g.1, g.3, g.4, g.5, pack ∙ g.6);
            within = omega arith;
            near = omega arith;
            just = λ e. never (sym e);
          },
        );
        off = λ e. never e;
        few = omega arith;
      }

  pub index_off : TrackFound image a None → Standing image (at_start a false 0 m)
  index_off f =
      let d = decoded w in
      record {
        sound = w;
        low = low;
        on = λ e. never (sym e);
        off = λ _. ap (λ ts. track_in ts a) (pack_is image d.0 d.1) ∙ f d.0 d.1;
        few = omega arith;
      }

pub index_again : (image : List ℕ) (d : Drive) (m : Option ℕ) → Standing image d → Standing image (at_start d.at d.found d.records m)
index_again image d m s =
    record {
      sound = s.sound;
      low = s.low;
      on = λ e.
          let t = s.on e in
          (t.0, record { there = t.1.there; first = t.1.first; ahead = t.1.first; within = omega arith; near = omega arith; just = λ e. never (sym e) });
      off = s.off;
      few = omega arith;
    }
