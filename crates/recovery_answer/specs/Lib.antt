pub mod RecoveryAnswer
