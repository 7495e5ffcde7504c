-- What is known of faults and first places, passed on for crates that stand on `systems` alone.
pub use Rattle.fault.proofs.Exactly.{same_fault}
