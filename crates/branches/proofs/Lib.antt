mod Fading
