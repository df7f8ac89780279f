pub mod WithdrawalLaws
