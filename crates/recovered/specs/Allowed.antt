-- Where a restart may seek.
use Rattle.std.specs.Prelude.{Bool, ◌&&◌}
use Rattle.address.specs.declared.Address.{Address}
use Rattle.address.specs.declared.Extent.{Extent}
use Rattle.address.specs.Model.{last_of}
use Rattle.address.specs.Order.{on_pack}
use Rattle.address.specs.Within.{within}

-- on the pack, and in the extent
abbrev pub allowed : Extent → Address → Bool
allowed x a = on_pack (last_of x.model) a && within x a
