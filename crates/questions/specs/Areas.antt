-- Question 1: the lent areas' sizes in bytes, and the command limit (document 01, "Bounds of the work").
use Rattle.std.specs.Prelude.{ℕ, ◌%◌, Bool, ◌&&◌, eqb, leb}

-- "chain .., 8 to 2,048 bytes, a multiple of 8"
unfoldable pub chain_fits : ℕ → Bool
chain_fits n = leb 8 n && leb n 2048 && eqb (n % 8) 0

-- "arguments .., up to 4,096"
abbrev pub arguments_fit : ℕ → Bool
arguments_fit n = leb n 4096

-- "storage and fault list, up to 65,536"
abbrev pub storage_fits : ℕ → Bool
storage_fits n = leb n 65536

-- "fault list, up to 65,536"
abbrev pub faults_fit : ℕ → Bool
faults_fit n = leb n 65536

-- "image, up to 1,048,576"
abbrev pub image_fits : ℕ → Bool
image_fits n = leb n 1048576

-- "restart program, 64 bytes"
abbrev pub program_fits : ℕ → Bool
program_fits n = eqb n 64

-- "restart arguments, 16 bytes"
abbrev pub restart_arguments_fit : ℕ → Bool
restart_arguments_fit n = eqb n 16

-- "The chain's command limit is 1 to 4,096"
unfoldable pub limit_fits : ℕ → Bool
limit_fits n = leb 1 n && leb n 4096

-- "a restarted run has 8,192"
abbrev pub restart_limit : ℕ
restart_limit = 8192

-- the areas and the limit that a run is lent
unfoldable pub run_areas : (chain arguments storage image faults limit : ℕ) → Bool
run_areas chain arguments storage image faults limit =
    chain_fits chain && arguments_fit arguments && storage_fits storage && image_fits image && faults_fit faults && limit_fits limit

-- the areas that a restart is built in
unfoldable pub restart_areas : (program arguments : ℕ) → Bool
restart_areas program arguments = program_fits program && restart_arguments_fit arguments
