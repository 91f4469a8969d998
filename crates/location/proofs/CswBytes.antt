-- A CSW as bytes: eight of them.
use mathlib.Core.Path.{◌≡◌, refl}
use lib.ListN.{length}
use Rattle.base.specs.Bytes.{two, three}
use Rattle.channel.specs.declared.Csw.{Csw}
use Rattle.channel.specs.Csw.{csw_bytes}

pub csw_length : (w : Csw) → length (csw_bytes w) ≡ 8
unfolding csw_bytes three two
csw_length w = refl
