pub mod OneInput
